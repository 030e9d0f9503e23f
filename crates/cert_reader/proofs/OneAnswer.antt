-- A text reads as one certificate, or has one first fault.
use Rattle.std.proofs.Common.{◌≡◌, ◌≢◌, ℕ, ◌+◌, ◌<◌, List, [], ◌∷◌, ◌++◌, ◌⊎◌, inl, inr, codes, length, refl, sym, ap, subst, ◌∙◌, arith, append_assoc}
use Rattle.std.proofs.lemmas.List.{append_cancel_left}
use Rattle.ground_task.specs.States.{StateValue}
use Rattle.ground_task.specs.Tasks.{TaskValue}
use Rattle.ground_task.specs.Valid.{IsValid}
use Rattle.box_model.specs.declared.state_box.StateBox.{StateBox}
use Rattle.cert_text.specs.declared.cert.Version.{Version}
use Rattle.cert_reader.specs.declared.faults.CertFault.{CertFault}
use Rattle.cert_reader.specs.declared.faults.CertFault.TheVariants.{BadLine, EndsEarly, TooMany, NoMemory}
use Rattle.cert_reader.specs.Parts.{IsWithout}
use Rattle.cert_reader.specs.Spelling.{SpellsBox, SpellsState}
use Rattle.cert_reader.specs.Certificates.{with_line_feeds, SpellsFront, ReadsAs, MayFollow, MayNotFollow, IsFull, FollowsAsBox, IsFirstFault}
use Rattle.cert_reader.proofs.InParts.{cut_same}
use Rattle.cert_reader.proofs.Numbers.{decided, without_back}
use Rattle.cert_reader.proofs.OneFront.{EachWithout, GoesOn, Meets, meet, box_no_state, box_no_end, state_no_end, front_solid, AreSame, one_front, no_front_empty, IsNext, Follows, next_in}

module _ (t : TaskValue) where
  -- no line was read, or the lines spell a version, boxes and states
  abbrev pub Known : List (List ℕ) → Type 0
  Known before = (before ≡ []) ⊎ ((v : Version) × (bs : List StateBox) × (ss : List StateValue) × SpellsFront t v before bs ss)

  known_solid : (before : List (List ℕ)) → Known before → EachWithout before
  known_solid before (inl none) = subst EachWithout (sym none) tt
  known_solid before (inr (v, bs, ss, front)) = front_solid t v before bs ss front

  -- the line with its line feed, or that there is none
  pub record Line (rest : List ℕ) : Type 0 where
    pub line : List ℕ
    pub behind : List ℕ
    pub cut : rest ≡ line ++ 10 ∷ behind
    pub solid : IsWithout 10 line

  -- reading stops behind these lines
  pub record Stops (text : List ℕ) (before : List (List ℕ)) (rest : List ℕ) : Type 0 where
    pub text_is : text ≡ with_line_feeds before ++ rest
    pub known : Known before
    pub stop : IsWithout 10 rest ⊎ ((here : Line rest) × (IsNext t before here.line → ⊥))

  unended : (rest line behind : List ℕ) → IsWithout 10 rest → rest ≡ line ++ 10 ∷ behind → ⊥
  unended rest line behind solid cut = (without_back 10 line (10 ∷ behind) (subst (IsWithout 10) cut solid)).0 refl

  no_further : (text : List ℕ) (xs : List (List ℕ)) (rest : List ℕ) (ys : List (List ℕ)) (left : List ℕ) → Stops text xs rest → Known ys → GoesOn xs rest ys left → ⊥
  no_further text xs rest ys left stops (inl none) on = nothing xs on.line on.lines (sym none ∙ on.more)
    where
      nothing : (zs : List (List ℕ)) (l : List ℕ) (ls : List (List ℕ)) → [] ≡ zs ++ l ∷ ls → ⊥
      nothing [] l ls same = cc
      nothing (z ∷ zs) l ls same = cc
  no_further text xs rest ys left stops (inr (v, bs, ss, front)) on =
      against stops.stop (next_in t v xs on.line on.lines bs ss (subst (λ (z : List (List ℕ)). SpellsFront t v z bs ss) on.more front))
    where
      against : IsWithout 10 rest ⊎ ((here : Line rest) × (IsNext t xs here.line → ⊥)) → IsNext t xs on.line → ⊥
      against (inl solid) next = unended rest on.line (with_line_feeds on.lines ++ left) solid on.rest_is
      against (inr (here, none)) next =
          none (subst (IsNext t xs) (cut_same 10 on.line here.line (with_line_feeds on.lines ++ left) here.behind on.solid here.solid (sym on.rest_is ∙ here.cut)) next)

  -- two stops of one text are one
  pub one_stop : (text : List ℕ) (xs : List (List ℕ)) (rest : List ℕ) (ys : List (List ℕ)) (left : List ℕ) → Stops text xs rest → Stops text ys left → (xs ≡ ys) × (rest ≡ left)
  one_stop text xs rest ys left h k =
      by (meet xs rest ys left (known_solid xs h.known) (known_solid ys k.known) (sym h.text_is ∙ k.text_is))
    where
      by : Meets xs rest ys left → (xs ≡ ys) × (rest ≡ left)
      by (inl same) = same
      by (inr (inl on)) = absurd (no_further text xs rest ys left h k.known on)
      by (inr (inr on)) = absurd (no_further text ys left xs rest k h.known on)

module _ (t : TaskValue) (valid : IsValid t.raw) where
  -- ---- lines that don't follow

  end_no_next : (v : Version) (before : List (List ℕ)) (bs : List StateBox) (ss : List StateValue) (line : List ℕ) → SpellsFront t v before bs ss → line ≡ codes "end" → IsNext t before line → ⊥
  end_no_next v before bs ss line front is (inl (none, (w, first))) = no_front_empty t v bs ss (subst (λ (z : List (List ℕ)). SpellsFront t v z bs ss) none front)
  end_no_next v before bs ss line front is (inr next) = by next.adds
    where
      by : ((b : StateBox) × FollowsAsBox t next.version next.states line b × (length next.boxes < 40000)) ⊎ ((s : StateValue) × SpellsState t line s × (length next.states < 500000)) → ⊥
      by (inl (b, (none, spells), room)) = box_no_end t next.version line b spells is
      by (inr (s, spells, room)) = state_no_end t line s spells is

  -- what follows may follow any reading of the lines before
  may_follow : (v : Version) (before : List (List ℕ)) (bs : List StateBox) (ss : List StateValue) (line : List ℕ) → SpellsFront t v before bs ss → Follows t before line → MayFollow t v ss line
  may_follow v before bs ss line front next =
      by next.adds
    where
      same : AreSame t valid next.version v next.boxes bs next.states ss
      same = one_front t valid before next.version v next.boxes bs next.states ss next.front front

      by : ((b : StateBox) × FollowsAsBox t next.version next.states line b × (length next.boxes < 40000)) ⊎ ((s : StateValue) × SpellsState t line s × (length next.states < 500000)) → MayFollow t v ss line
      by (inl (b, (none, spells), room)) = inl (b, (sym same.states ∙ none, subst (λ (w : Version). SpellsBox t w line b) same.version spells))
      by (inr (s, spells, room)) = inr (inl (s, spells))

  bad_no_next : (before : List (List ℕ)) (line : List ℕ) → MayNotFollow t before line → IsNext t before line → ⊥
  bad_no_next before line (inl (none, no_first)) (inl (empty, (v, first))) = no_first v first
  bad_no_next before line (inl (none, no_first)) (inr next) =
      no_front_empty t next.version next.boxes next.states (subst (λ (z : List (List ℕ)). SpellsFront t next.version z next.boxes next.states) none next.front)
  bad_no_next before line (inr (v, bs, ss, front, bad)) (inl (empty, (w, first))) = no_front_empty t v bs ss (subst (λ (z : List (List ℕ)). SpellsFront t v z bs ss) empty front)
  bad_no_next before line (inr (v, bs, ss, front, bad)) (inr next) = bad (may_follow v before bs ss line front next)

  full_no_next : (v : Version) (before : List (List ℕ)) (bs : List StateBox) (ss : List StateValue) (line : List ℕ) → SpellsFront t v before bs ss → IsFull t v bs ss line → IsNext t before line → ⊥
  full_no_next v before bs ss line front full (inl (none, (w, first))) = no_front_empty t v bs ss (subst (λ (z : List (List ℕ)). SpellsFront t v z bs ss) none front)
  full_no_next v before bs ss line front full (inr next) = by full next.adds
    where
      same : AreSame t valid next.version v next.boxes bs next.states ss
      same = one_front t valid before next.version v next.boxes bs next.states ss next.front front

      by : IsFull t v bs ss line → ((b : StateBox) × FollowsAsBox t next.version next.states line b × (length next.boxes < 40000)) ⊎ ((s : StateValue) × SpellsState t line s × (length next.states < 500000)) → ⊥
      by (inl (count, (b, follows))) (inl (c, others, room)) = omega (arith, ap length same.boxes, count, room)
      by (inl (count, (b, (none, spells)))) (inr (s, other, room)) = box_no_state t v line b s spells other
      by (inr (count, (s, spells))) (inl (b, (none, other), room)) = box_no_state t next.version line b s other spells
      by (inr (count, (s, spells))) (inr (u, other, room)) = omega (arith, ap length same.states, count, room)

  full_may : (v : Version) (bs : List StateBox) (ss : List StateValue) (line : List ℕ) → IsFull t v bs ss line → MayFollow t v ss line
  full_may v bs ss line (inl (count, (b, follows))) = inl (b, follows)
  full_may v bs ss line (inr (count, (s, spells))) = inr (inl (s, spells))

  full_no_end : (v : Version) (bs : List StateBox) (ss : List StateValue) (line : List ℕ) → IsFull t v bs ss line → line ≡ codes "end" → ⊥
  full_no_end v bs ss line (inl (count, (b, (none, spells)))) is = box_no_end t v line b spells is
  full_no_end v bs ss line (inr (count, (s, spells))) is = state_no_end t line s spells is

  bad_no_end : (v : Version) (before : List (List ℕ)) (bs : List StateBox) (ss : List StateValue) (line : List ℕ) → SpellsFront t v before bs ss → MayNotFollow t before line → line ≡ codes "end" → ⊥
  bad_no_end v before bs ss line front (inl (none, no_first)) is = no_front_empty t v bs ss (subst (λ (z : List (List ℕ)). SpellsFront t v z bs ss) none front)
  bad_no_end v before bs ss line front (inr (w, cs, us, other, bad)) is = bad (inr (inr is))

  bad_no_full : (v : Version) (before : List (List ℕ)) (bs : List StateBox) (ss : List StateValue) (line : List ℕ) → SpellsFront t v before bs ss → MayNotFollow t before line → IsFull t v bs ss line → ⊥
  bad_no_full v before bs ss line front (inl (none, no_first)) full = no_front_empty t v bs ss (subst (λ (z : List (List ℕ)). SpellsFront t v z bs ss) none front)
  bad_no_full v before bs ss line front (inr (w, cs, us, other, bad)) full =
      let same = one_front t valid before v w bs cs ss us front other in
      bad (subst (λ (z : Version). MayFollow t z us line) same.version (subst (λ (z : List StateValue). MayFollow t v z line) same.states (full_may v bs ss line full)))

  -- ---- what is told where reading stops

  -- a certificate, or the number of a line and the kind of its fault
  pub record Reads (before : List (List ℕ)) (rest : List ℕ) (bs : List StateBox) (ss : List StateValue) : Type 0 where
    pub version : Version
    pub front : SpellsFront t version before bs ss
    pub ends : rest ≡ codes "end\n"

  pub record BadHere (before : List (List ℕ)) (rest : List ℕ) (number : ℕ) : Type 0 where
    pub line : List ℕ
    pub behind : List ℕ
    pub cut : rest ≡ line ++ 10 ∷ behind
    pub solid : IsWithout 10 line
    pub place : number ≡ length before + 1
    pub bad : MayNotFollow t before line

  pub record EndHere (before : List (List ℕ)) (rest : List ℕ) (number : ℕ) : Type 0 where
    pub version : Version
    pub boxes : List StateBox
    pub states : List StateValue
    pub front : SpellsFront t version before boxes states
    pub byte : ℕ
    pub behind : List ℕ
    pub cut : rest ≡ codes "end\n" ++ byte ∷ behind
    pub place : number ≡ length before + 2

  pub record FullHere (before : List (List ℕ)) (rest : List ℕ) (number : ℕ) : Type 0 where
    pub version : Version
    pub boxes : List StateBox
    pub states : List StateValue
    pub front : SpellsFront t version before boxes states
    pub line : List ℕ
    pub behind : List ℕ
    pub cut : rest ≡ line ++ 10 ∷ behind
    pub solid : IsWithout 10 line
    pub place : number ≡ length before + 1
    pub full : IsFull t version boxes states line

  pub record NoneHere (before : List (List ℕ)) (rest : List ℕ) (number : ℕ) : Type 0 where
    pub solid : IsWithout 10 rest
    pub place : number ≡ length before + 1

  -- why a text is no certificate
  abbrev pub FaultHere : List (List ℕ) → List ℕ → CertFault → Type 0
  FaultHere before rest (BadLine n) = BadHere before rest n ⊎ EndHere before rest n
  FaultHere before rest (EndsEarly n) = NoneHere before rest n
  FaultHere before rest (TooMany n) = FullHere before rest n
  FaultHere before rest NoMemory = ⊥

  end_solid : IsWithout 10 (codes "end")
  end_solid = decided 10 (codes "end") refl

  -- ---- where each of them stops

  pub reads_stops : (text : List ℕ) (bs : List StateBox) (ss : List StateValue) → (reads : ReadsAs t text bs ss) → Stops t text reads.lines (codes "end\n") × Reads reads.lines (codes "end\n") bs ss
  reads_stops text bs ss reads = (
    record {
      text_is = reads.text_is;
      known = inr (reads.version, bs, ss, reads.front);
      stop = inr (record { line = codes "end"; behind = []; cut = refl; solid = end_solid }, end_no_next reads.version reads.lines bs ss (codes "end") reads.front refl);
    },
    record { version = reads.version; front = reads.front; ends = refl },
  )

  abbrev pub Found : List ℕ → CertFault → Type 0
  Found text fault = (before : List (List ℕ)) × (rest : List ℕ) × Stops t text before rest × FaultHere before rest fault

  behind_line : (before : List (List ℕ)) (text line behind : List ℕ) → text ≡ with_line_feeds before ++ (line ++ codes "\n" ++ behind) → text ≡ with_line_feeds before ++ (line ++ 10 ∷ behind)
  behind_line before text line behind is = is ∙ ap (λ (r : List ℕ). with_line_feeds before ++ r) (append_assoc line (codes "\n") behind)

  known_of_bad : (before : List (List ℕ)) (line : List ℕ) → MayNotFollow t before line → Known t before
  known_of_bad before line (inl (none, no_first)) = inl none
  known_of_bad before line (inr (v, bs, ss, front, bad)) = inr (v, bs, ss, front)

  pub fault_stops : (text : List ℕ) (fault : CertFault) → fault ≢ NoMemory → IsFirstFault t text fault → Found text fault
  fault_stops text (BadLine n) real (inl is) = (
    is.before,
    is.line ++ 10 ∷ is.behind,
    record {
      text_is = behind_line is.before text is.line is.behind is.text_is;
      known = known_of_bad is.before is.line is.bad;
      stop = inr (record { line = is.line; behind = is.behind; cut = refl; solid = is.one_line }, bad_no_next is.before is.line is.bad);
    },
    inl (record { line = is.line; behind = is.behind; cut = refl; solid = is.one_line; place = is.place; bad = is.bad }),
  )
  fault_stops text (BadLine n) real (inr is) = (
    is.lines,
    codes "end\n" ++ is.byte ∷ is.behind,
    record {
      text_is = is.text_is;
      known = inr (is.version, is.boxes, is.states, is.front);
      stop = inr (record { line = codes "end"; behind = is.byte ∷ is.behind; cut = refl; solid = end_solid }, end_no_next is.version is.lines is.boxes is.states (codes "end") is.front refl);
    },
    inr (record { version = is.version; boxes = is.boxes; states = is.states; front = is.front; byte = is.byte; behind = is.behind; cut = refl; place = is.place }),
  )
  fault_stops text (EndsEarly n) real is =
      (is.before, is.unended, record { text_is = is.text_is; known = is.faultless; stop = inl is.no_line }, record { solid = is.no_line; place = is.place })
  fault_stops text (TooMany n) real is = (
    is.before,
    is.line ++ 10 ∷ is.behind,
    record {
      text_is = behind_line is.before text is.line is.behind is.text_is;
      known = inr (is.version, is.boxes, is.states, is.front);
      stop = inr (record { line = is.line; behind = is.behind; cut = refl; solid = is.one_line }, full_no_next is.version is.before is.boxes is.states is.line is.front is.full);
    },
    record { version = is.version; boxes = is.boxes; states = is.states; front = is.front; line = is.line; behind = is.behind; cut = refl; solid = is.one_line; place = is.place; full = is.full },
  )
  fault_stops text NoMemory real is = absurd (real refl)

  -- ---- each of them excludes the others

  same_line : (line other behind left rest : List ℕ) → rest ≡ line ++ 10 ∷ behind → rest ≡ other ++ 10 ∷ left → IsWithout 10 line → IsWithout 10 other → line ≡ other
  same_line line other behind left rest h k solid also = cut_same 10 line other behind left solid also (sym h ∙ k)

  module _ (before : List (List ℕ)) (rest : List ℕ) where
    bad_apart_end : (n m : ℕ) → BadHere before rest n → EndHere before rest m → ⊥
    bad_apart_end n m h k = bad_no_end k.version before k.boxes k.states h.line k.front h.bad (same_line h.line (codes "end") h.behind (k.byte ∷ k.behind) rest h.cut k.cut h.solid end_solid)

    bad_apart_full : (n m : ℕ) → BadHere before rest n → FullHere before rest m → ⊥
    bad_apart_full n m h k =
        bad_no_full k.version before k.boxes k.states h.line k.front h.bad
        (subst (IsFull t k.version k.boxes k.states) (sym (same_line h.line k.line h.behind k.behind rest h.cut k.cut h.solid k.solid)) k.full)

    end_apart_full : (n m : ℕ) → EndHere before rest n → FullHere before rest m → ⊥
    end_apart_full n m h k = full_no_end k.version k.boxes k.states k.line k.full (sym (same_line (codes "end") k.line (h.byte ∷ h.behind) k.behind rest h.cut k.cut end_solid k.solid))

    pub reads_no_fault : (bs : List StateBox) (ss : List StateValue) (fault : CertFault) → Reads before rest bs ss → FaultHere before rest fault → ⊥
    reads_no_fault bs ss (BadLine n) h (inl k) = bad_no_end h.version before bs ss k.line h.front k.bad (same_line k.line (codes "end") k.behind [] rest k.cut h.ends k.solid end_solid)
    reads_no_fault bs ss (BadLine n) h (inr k) =
        let more : [] ≡ k.byte ∷ k.behind = append_cancel_left (codes "end\n") [] (k.byte ∷ k.behind) (sym h.ends ∙ k.cut) in cc
    reads_no_fault bs ss (EndsEarly n) h k = unended t rest (codes "end") [] k.solid h.ends
    reads_no_fault bs ss (TooMany n) h k = full_no_end k.version k.boxes k.states k.line k.full (same_line k.line (codes "end") k.behind [] rest k.cut h.ends k.solid end_solid)
    reads_no_fault bs ss NoMemory h k = k

    pub one_fault : (fault other : CertFault) → FaultHere before rest fault → FaultHere before rest other → fault ≡ other
    one_fault (BadLine n) (BadLine m) (inl h) (inl k) = ap BadLine (h.place ∙ sym k.place)
    one_fault (BadLine n) (BadLine m) (inl h) (inr k) = absurd (bad_apart_end n m h k)
    one_fault (BadLine n) (BadLine m) (inr h) (inl k) = absurd (bad_apart_end m n k h)
    one_fault (BadLine n) (BadLine m) (inr h) (inr k) = ap BadLine (h.place ∙ sym k.place)
    one_fault (BadLine n) (EndsEarly m) (inl h) k = absurd (unended t rest h.line h.behind k.solid h.cut)
    one_fault (BadLine n) (EndsEarly m) (inr h) k = absurd (unended t rest (codes "end") (h.byte ∷ h.behind) k.solid h.cut)
    one_fault (BadLine n) (TooMany m) (inl h) k = absurd (bad_apart_full n m h k)
    one_fault (BadLine n) (TooMany m) (inr h) k = absurd (end_apart_full n m h k)
    one_fault (BadLine n) NoMemory h k = absurd k
    one_fault (EndsEarly n) (BadLine m) h (inl k) = absurd (unended t rest k.line k.behind h.solid k.cut)
    one_fault (EndsEarly n) (BadLine m) h (inr k) = absurd (unended t rest (codes "end") (k.byte ∷ k.behind) h.solid k.cut)
    one_fault (EndsEarly n) (EndsEarly m) h k = ap EndsEarly (h.place ∙ sym k.place)
    one_fault (EndsEarly n) (TooMany m) h k = absurd (unended t rest k.line k.behind h.solid k.cut)
    one_fault (EndsEarly n) NoMemory h k = absurd k
    one_fault (TooMany n) (BadLine m) h (inl k) = absurd (bad_apart_full m n k h)
    one_fault (TooMany n) (BadLine m) h (inr k) = absurd (end_apart_full m n k h)
    one_fault (TooMany n) (EndsEarly m) h k = absurd (unended t rest h.line h.behind k.solid h.cut)
    one_fault (TooMany n) (TooMany m) h k = ap TooMany (h.place ∙ sym k.place)
    one_fault (TooMany n) NoMemory h k = absurd k
    one_fault NoMemory other h k = absurd h

  -- ---- texts

  module _ (text : List ℕ) where
    pub read_once : (bs cs : List StateBox) (ss us : List StateValue) → ReadsAs t text bs ss → ReadsAs t text cs us → (bs ≡ cs) × (ss ≡ us)
    read_once bs cs ss us h k =
        let stop = one_stop t text h.lines (codes "end\n") k.lines (codes "end\n") (reads_stops text bs ss h).0 (reads_stops text cs us k).0 in
        let same = one_front t valid k.lines h.version k.version bs cs ss us (subst (λ (z : List (List ℕ)). SpellsFront t h.version z bs ss) stop.0 h.front) k.front in
        (same.boxes, same.states)

    pub read_or_fault : (bs : List StateBox) (ss : List StateValue) (fault : CertFault) → fault ≢ NoMemory → ReadsAs t text bs ss → IsFirstFault t text fault → ⊥
    read_or_fault bs ss fault real h is = by (reads_stops text bs ss h) (fault_stops text fault real is)
      where
        by : Stops t text h.lines (codes "end\n") × Reads h.lines (codes "end\n") bs ss → Found text fault → ⊥
        by (stops, reads) (before, rest, halts, found) =
            let same = one_stop t text before rest h.lines (codes "end\n") halts stops in
            reads_no_fault h.lines (codes "end\n") bs ss fault reads
            (subst (λ (z : List (List ℕ)). FaultHere z (codes "end\n") fault) same.0 (subst (λ (z : List ℕ). FaultHere before z fault) same.1 found))

    pub faulty_once : (fault other : CertFault) → fault ≢ NoMemory → other ≢ NoMemory → IsFirstFault t text fault → IsFirstFault t text other → fault ≡ other
    faulty_once fault other real also h k = by (fault_stops text fault real h) (fault_stops text other also k)
      where
        by : Found text fault → Found text other → fault ≡ other
        by (before, rest, stops, found) (lines, left, halts, told) =
            let same = one_stop t text lines left before rest halts stops in
            one_fault before rest fault other found
            (subst (λ (z : List (List ℕ)). FaultHere z rest other) same.0 (subst (λ (z : List ℕ). FaultHere lines z other) same.1 told))
