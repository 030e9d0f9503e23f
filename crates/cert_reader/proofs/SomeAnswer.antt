-- Each text reads as a certificate or has a first fault.
use Rattle.std.proofs.Common.{◌≡◌, ◌≢◌, ℕ, zero, suc, ◌+◌, ◌<◌, ◌≤◌, Bool, true, false, List, [], ◌∷◌, ◌++◌, ◌⊎◌, inl, inr, codes, eqb, length, refl, sym, ap, ap₂, ◌∙◌, arith, append_assoc, eq-eqb}
use Rattle.std.proofs.lemmas.Bool.{eqb-true, both_ways}
use Rattle.std.proofs.lemmas.List.{append-nil}
use Rattle.ground_task.specs.States.{StateValue}
use Rattle.ground_task.specs.Tasks.{TaskValue}
use Rattle.box_model.specs.declared.state_box.StateBox.{StateBox}
use Rattle.cert_text.specs.declared.cert.Cert.{Cert}
use Rattle.cert_text.specs.declared.cert.Version.{Version}
use Rattle.cert_reader.specs.declared.faults.CertFault.{CertFault}
use Rattle.cert_reader.specs.declared.faults.CertFault.TheVariants.{BadLine, EndsEarly, TooMany, NoMemory}
use Rattle.cert_reader.specs.Parts.{IsWithout}
use Rattle.cert_reader.specs.Spelling.{SpellsState}
use Rattle.cert_reader.specs.Certificates.{first_line, with_line_feeds, SpellsFront, ReadsAs, MayFollow, IsFirstFault, FollowsAsBox}
use Rattle.cert_reader.specs.internal.Additions.{Adds}
use Rattle.cert_reader.proofs.InTexts.{one_front_more, feeds_and_one}
use Rattle.cert_reader.proofs.OneFront.{EachWithout}

-- ---- the lines of a text, and what stands behind the last line feed

pub record Lines (text : List ℕ) : Type 0 where
  pub lines : List (List ℕ)
  pub rest : List ℕ
  pub text_is : text ≡ with_line_feeds lines ++ rest
  pub solid : IsWithout 10 rest
  pub each : EachWithout lines

line_feed : (x : ℕ) (text : List ℕ) → x ≡ 10 → Lines text → Lines (x ∷ text)
line_feed x text is more = record {
  lines = [] ∷ more.lines;
  rest = more.rest;
  text_is = ap₂ (λ (y : ℕ) (ys : List ℕ). y ∷ ys) is more.text_is;
  solid = more.solid;
  each = (tt, more.each);
}

longer_line : (x : ℕ) (text : List ℕ) (lines : List (List ℕ)) (rest : List ℕ) → (x ≡ 10 → ⊥) → text ≡ with_line_feeds lines ++ rest → IsWithout 10 rest → EachWithout lines → Lines (x ∷ text)
longer_line x text [] rest other is solid each = record { lines = []; rest = x ∷ rest; text_is = ap (λ (ys : List ℕ). x ∷ ys) is; solid = (other, solid); each = tt }
longer_line x text (line ∷ lines) rest other is solid each =
    record { lines = (x ∷ line) ∷ lines; rest = rest; text_is = ap (λ (ys : List ℕ). x ∷ ys) is; solid = solid; each = ((other, each.0), each.1) }

pub lines_of : (text : List ℕ) → Lines text
lines_of [] = record { lines = []; rest = []; text_is = refl; solid = tt; each = tt }
lines_of (x ∷ text) = by (eqb x 10) refl (lines_of text)
  where
    by : (r : Bool) → eqb x 10 ≡ r → Lines text → Lines (x ∷ text)
    by true is more = line_feed x text (eqb-true x 10 is) more
    by false is more = longer_line x text more.lines more.rest (λ e. both_ways (eqb x 10) is (eq-eqb x 10 e)) more.text_is more.solid more.each

-- ---- an answer

module _ (t : TaskValue) (text : List ℕ) (no_cert : (bs : List StateBox) (ss : List StateValue) → ReadsAs t text bs ss → ⊥)
    (no_fault : (fault : CertFault) → fault ≢ NoMemory → IsFirstFault t text fault → ⊥) where
  bad_real : (n : ℕ) → BadLine n ≢ NoMemory
  bad_real n e = cc

  early_real : (n : ℕ) → EndsEarly n ≢ NoMemory
  early_real n e = cc

  full_real : (n : ℕ) → TooMany n ≢ NoMemory
  full_real n e = cc

  module _ (v : Version) (before : List (List ℕ)) (bs : List StateBox) (ss : List StateValue) (front : SpellsFront t v before bs ss) where
    no_rest : (rest : List ℕ) → text ≡ with_line_feeds before ++ rest → IsWithout 10 rest → ⊥
    no_rest rest is solid =
        no_fault (EndsEarly (length before + 1)) (early_real (length before + 1))
        (record { before = before; unended = rest; text_is = is; no_line = solid; place = refl; faultless = inr (v, bs, ss, front) })

    no_end : (behind : List ℕ) → text ≡ with_line_feeds before ++ (codes "end\n" ++ behind) → ⊥
    no_end [] is = no_cert bs ss (record { version = v; lines = before; front = front; text_is = is ∙ ap (λ (r : List ℕ). with_line_feeds before ++ r) (append-nil (codes "end\n")) })
    no_end (byte ∷ behind) is =
        no_fault (BadLine (length before + 2)) (bad_real (length before + 2))
        (inr (record { version = v; lines = before; boxes = bs; states = ss; front = front; byte = byte; behind = behind; text_is = is; place = refl }))

    module _ (line behind : List ℕ) (is : text ≡ with_line_feeds before ++ (line ++ codes "\n" ++ behind)) (solid : IsWithout 10 line) where
      no_bad : (MayFollow t v ss line → ⊥) → ⊥
      no_bad bad =
          no_fault (BadLine (length before + 1)) (bad_real (length before + 1))
          (inl (record { before = before; line = line; behind = behind; text_is = is; one_line = solid; place = refl; bad = inr (v, bs, ss, front, bad) }))

      no_full_boxes : (b : StateBox) → FollowsAsBox t v ss line b → length bs ≡ 40000 → ⊥
      no_full_boxes b follows full =
          no_fault (TooMany (length before + 1)) (full_real (length before + 1))
          (record { version = v; before = before; boxes = bs; states = ss; front = front; line = line; behind = behind; text_is = is; one_line = solid; place = refl; full = inl (full, (b, follows)) })

      no_full_states : (s : StateValue) → SpellsState t line s → length ss ≡ 500000 → ⊥
      no_full_states s spells full =
          no_fault (TooMany (length before + 1)) (full_real (length before + 1))
          (record { version = v; before = before; boxes = bs; states = ss; front = front; line = line; behind = behind; text_is = is; one_line = solid; place = refl; full = inr (full, (s, spells)) })

  room_or_full : (n most : ℕ) → n ≤ most → (n < most) ⊎ (n ≡ most)
  room_or_full zero zero h = inr refl
  room_or_full zero (suc m) h = inl (omega arith)
  room_or_full (suc n) zero h = absurd (omega arith)
  room_or_full (suc n) (suc m) h = up (room_or_full n m (omega arith))
    where
      up : (n < m) ⊎ (n ≡ m) → (suc n < suc m) ⊎ (suc n ≡ suc m)
      up (inl less) = inl (omega arith)
      up (inr same) = inr (ap suc same)

  -- the text, cut behind one line more
  one_cut : (before : List (List ℕ)) (line more : List ℕ) → text ≡ with_line_feeds before ++ ((line ++ codes "\n") ++ more) → text ≡ with_line_feeds (before ++ line ∷ []) ++ more
  one_cut before line more is =
      is ∙ sym (append_assoc (with_line_feeds before) (line ++ codes "\n") more) ∙ ap (λ (r : List ℕ). r ++ more) (sym (feeds_and_one before line))

  module _ (v : Version) (before : List (List ℕ)) (bs : List StateBox) (ss : List StateValue) (front : SpellsFront t v before bs ss) (line more : List ℕ)
      (is : text ≡ with_line_feeds before ++ (line ++ codes "\n" ++ more)) (solid : IsWithout 10 line)
      (again : (cs : List StateBox) (us : List StateValue) → SpellsFront t v (before ++ line ∷ []) cs us → ⊥) where
    go_on : (new : Cert) → Adds t v line (record { boxes = bs; states = ss }) new → ⊥
    go_on new adds = again new.boxes new.states (one_front_more t v before line (record { boxes = bs; states = ss }) new front adds)

    one_box_more : (b : StateBox) → FollowsAsBox t v ss line b → (length bs < 40000) ⊎ (length bs ≡ 40000) → ⊥
    one_box_more b follows (inl room) = go_on (record { boxes = bs ++ b ∷ []; states = ss }) (inl (b, follows, room, refl, refl))
    one_box_more b follows (inr full) = no_full_boxes v before bs ss front line more is solid b follows full

    one_state_more : (s : StateValue) → SpellsState t line s → (length ss < 500000) ⊎ (length ss ≡ 500000) → ⊥
    one_state_more s spells (inl room) = go_on (record { boxes = bs; states = ss ++ s ∷ [] }) (inr (s, spells, room, refl, refl))
    one_state_more s spells (inr full) = no_full_states v before bs ss front line more is solid s spells full

    follow : MayFollow t v ss line → ⊥
    follow (inl (b, follows)) = one_box_more b follows (room_or_full (length bs) 40000 front.few_boxes)
    follow (inr (inl (s, spells))) = one_state_more s spells (room_or_full (length ss) 500000 front.few_states)
    follow (inr (inr end)) =
        no_end v before bs ss front more
        (is ∙ ap (λ (l : List ℕ). with_line_feeds before ++ (l ++ codes "\n" ++ more)) end)

  further : (lines : List (List ℕ)) (rest : List ℕ) (v : Version) (before : List (List ℕ)) (bs : List StateBox) (ss : List StateValue) → SpellsFront t v before bs ss
      → text ≡ with_line_feeds before ++ (with_line_feeds lines ++ rest) → EachWithout lines → IsWithout 10 rest → ⊥
  further [] rest v before bs ss front is each solid = no_rest v before bs ss front rest is solid
  further (line ∷ lines) rest v before bs ss front is each solid =
      let more = with_line_feeds lines ++ rest in
      let here : text ≡ with_line_feeds before ++ ((line ++ codes "\n") ++ more) =
      is ∙ ap (λ (r : List ℕ). with_line_feeds before ++ r) (append_assoc (line ++ codes "\n") (with_line_feeds lines) rest) in
      no_bad v before bs ss front line more here each.0
      (follow v before bs ss front line more here each.0
      (λ cs us next. further lines rest v (before ++ line ∷ []) cs us next (one_cut before line more here) each.1 solid))

  no_first : (lines : List (List ℕ)) (rest : List ℕ) → text ≡ with_line_feeds lines ++ rest → EachWithout lines → IsWithout 10 rest → ⊥
  no_first [] rest is each solid =
      no_fault (EndsEarly 1) (early_real 1) (record { before = []; unended = rest; text_is = is; no_line = solid; place = refl; faultless = inl refl })
  no_first (line ∷ lines) rest is each solid =
      no_fault (BadLine 1) (bad_real 1)
      (inl (record {
        before = [];
        line = line;
        behind = with_line_feeds lines ++ rest;
        text_is = is ∙ append_assoc (line ++ codes "\n") (with_line_feeds lines) rest ∙ append_assoc line (codes "\n") (with_line_feeds lines ++ rest)
            ∙ sym (append_assoc line (codes "\n") (with_line_feeds lines ++ rest));
        one_line = each.0;
        place = refl;
        bad = inl (refl, begun);
      }))
    where
      begun : (v : Version) → line ≡ first_line v → ⊥
      begun v first =
          further lines rest v (line ∷ []) [] []
          (record { box_lines = []; state_lines = []; lines_are = ap (λ (l : List ℕ). l ∷ []) first; spell_boxes = tt; spell_states = tt; few_boxes = omega arith; few_states = omega arith })
          (is ∙ append_assoc (line ++ codes "\n") (with_line_feeds lines) rest ∙ ap (λ (r : List ℕ). r ++ (with_line_feeds lines ++ rest)) (sym (append-nil (line ++ codes "\n")))) each.1 solid

  pub some_answer : ⊥
  some_answer = let lines = lines_of text in no_first lines.lines lines.rest lines.text_is lines.each lines.solid
