-- The lines of a certificate before its end are read in one way, and a text is cut into lines in one way.
use Rattle.std.proofs.Common.{◌≡◌, ℕ, ◌<◌, ◌≤◌, List, [], ◌∷◌, ◌++◌, ◌⊎◌, inl, inr, codes, length, refl, sym, ap, ap₂, subst, ◌∙◌, arith, append_assoc, length-append}
use Rattle.std.proofs.lemmas.List.{append-nil, append_cancel_left}
use Rattle.ground_task.specs.States.{StateValue}
use Rattle.ground_task.specs.Tasks.{TaskValue}
use Rattle.ground_task.specs.Valid.{IsValid}
use Rattle.box_model.specs.declared.state_box.StateBox.{StateBox}
use Rattle.cert_text.specs.declared.cert.Version.{Version}
use Rattle.cert_text.specs.declared.cert.Version.TheVariants.{Full, Short}
use Rattle.cert_reader.specs.Parts.{IsWithout}
use Rattle.cert_reader.specs.Spelling.{SpellsBox, SpellsState}
use Rattle.cert_reader.specs.Certificates.{first_line, with_line_feeds, SpellEach, SpellsFront, FollowsAsBox}
use Rattle.cert_reader.proofs.InLines.{one_box, one_state}
use Rattle.cert_reader.proofs.InParts.{cut_same}
use Rattle.cert_reader.proofs.Numbers.{decided, heads, tails}

-- ---- a text is cut into lines in one way

abbrev pub EachWithout : List (List ℕ) → Type 0
EachWithout [] = Unit {0}
EachWithout (line ∷ lines) = IsWithout 10 line × EachWithout lines

-- the second list goes on with this line, and what is left behind the first begins with it
pub record GoesOn (xs : List (List ℕ)) (rest : List ℕ) (ys : List (List ℕ)) (left : List ℕ) : Type 0 where
  pub line : List ℕ
  pub lines : List (List ℕ)
  pub more : ys ≡ xs ++ line ∷ lines
  pub rest_is : rest ≡ line ++ 10 ∷ (with_line_feeds lines ++ left)
  pub solid : IsWithout 10 line

abbrev pub Meets : List (List ℕ) → List ℕ → List (List ℕ) → List ℕ → Type 0
Meets xs rest ys left = ((xs ≡ ys) × (rest ≡ left)) ⊎ GoesOn xs rest ys left ⊎ GoesOn ys left xs rest

pub feeds : (line : List ℕ) (lines : List (List ℕ)) (more : List ℕ) → with_line_feeds (line ∷ lines) ++ more ≡ line ++ 10 ∷ (with_line_feeds lines ++ more)
feeds line lines more =
    append_assoc (line ++ codes "\n") (with_line_feeds lines) more ∙ append_assoc line (codes "\n") (with_line_feeds lines ++ more)

one_more : (x : List ℕ) (xs : List (List ℕ)) (rest : List ℕ) (ys : List (List ℕ)) (left : List ℕ) → Meets xs rest ys left → Meets (x ∷ xs) rest (x ∷ ys) left
one_more x xs rest ys left (inl same) = inl (ap (λ (zs : List (List ℕ)). x ∷ zs) same.0, same.1)
one_more x xs rest ys left (inr (inl on)) =
    inr (inl (record { line = on.line; lines = on.lines; more = ap (λ (zs : List (List ℕ)). x ∷ zs) on.more; rest_is = on.rest_is; solid = on.solid }))
one_more x xs rest ys left (inr (inr on)) =
    inr (inr (record { line = on.line; lines = on.lines; more = ap (λ (zs : List (List ℕ)). x ∷ zs) on.more; rest_is = on.rest_is; solid = on.solid }))

pub meet : (xs : List (List ℕ)) (rest : List ℕ) (ys : List (List ℕ)) (left : List ℕ) → EachWithout xs → EachWithout ys
    → with_line_feeds xs ++ rest ≡ with_line_feeds ys ++ left → Meets xs rest ys left
meet [] rest [] left h k same = inl (refl, same)
meet [] rest (y ∷ ys) left h k same =
    inr (inl (record { line = y; lines = ys; more = refl; rest_is = same ∙ feeds y ys left; solid = k.0 }))
meet (x ∷ xs) rest [] left h k same =
    inr (inr (record { line = x; lines = xs; more = refl; rest_is = sym same ∙ feeds x xs rest; solid = h.0 }))
meet (x ∷ xs) rest (y ∷ ys) left h k same =
    let whole : x ++ 10 ∷ (with_line_feeds xs ++ rest) ≡ y ++ 10 ∷ (with_line_feeds ys ++ left) = sym (feeds x xs rest) ∙ same ∙ feeds y ys left in
    let line : x ≡ y = cut_same 10 x y (with_line_feeds xs ++ rest) (with_line_feeds ys ++ left) h.0 k.0 whole in
    let tail : with_line_feeds xs ++ rest ≡ with_line_feeds ys ++ left =
    tails 10 10 (with_line_feeds xs ++ rest) (with_line_feeds ys ++ left)
    (append_cancel_left y (10 ∷ (with_line_feeds xs ++ rest)) (10 ∷ (with_line_feeds ys ++ left)) (ap (λ (l : List ℕ). l ++ 10 ∷ (with_line_feeds xs ++ rest)) (sym line) ∙ whole)) in
    subst (λ (z : List ℕ). Meets (x ∷ xs) rest (z ∷ ys) left) line (one_more x xs rest ys left (meet xs rest ys left h.1 k.1 tail))

-- ---- lines of different kinds

module _ (t : TaskValue) where
  pub box_no_state : (version : Version) (line : List ℕ) (b : StateBox) (s : StateValue) → SpellsBox t version line b → SpellsState t line s → ⊥
  box_no_state version line b s h k = omega (arith, heads 98 115 (codes "ox" ++ h.parts) (codes "tate" ++ k.parts) (sym h.spelled ∙ k.spelled))

  pub box_no_end : (version : Version) (line : List ℕ) (b : StateBox) → SpellsBox t version line b → line ≡ codes "end" → ⊥
  box_no_end version line b h is = omega (arith, heads 98 101 (codes "ox" ++ h.parts) (codes "nd") (sym h.spelled ∙ is))

  pub state_no_end : (line : List ℕ) (s : StateValue) → SpellsState t line s → line ≡ codes "end" → ⊥
  state_no_end line s h is = omega (arith, heads 115 101 (codes "tate" ++ h.parts) (codes "nd") (sym h.spelled ∙ is))

versions_apart : codes "UNSOLVABLE 1" ≡ codes "UNSOLVABLE 2" → ⊥
versions_apart same = omega (arith, heads 49 50 [] [] (append_cancel_left (codes "UNSOLVABLE ") (codes "1") (codes "2") same))

one_version : (v w : Version) → first_line v ≡ first_line w → v ≡ w
one_version Full Full same = refl
one_version Full Short same = absurd (versions_apart same)
one_version Short Full same = absurd (versions_apart (sym same))
one_version Short Short same = refl

first_solid : (v : Version) → IsWithout 10 (first_line v)
first_solid Full = decided 10 (codes "UNSOLVABLE 1") refl
first_solid Short = decided 10 (codes "UNSOLVABLE 2") refl

each_solid : {X : Type 0} (Spells : List ℕ → X → Type 0) → ((line : List ℕ) (x : X) → Spells line x → IsWithout 10 line) → (lines : List (List ℕ)) (xs : List X) → SpellEach Spells lines xs → EachWithout lines
each_solid Spells one [] xs h = tt
each_solid Spells one (line ∷ lines) [] h = absurd h
each_solid Spells one (line ∷ lines) (x ∷ xs) h = (one line x h.0, each_solid Spells one lines xs h.1)

both_solid : (xs ys : List (List ℕ)) → EachWithout xs → EachWithout ys → EachWithout (xs ++ ys)
both_solid [] ys h k = k
both_solid (x ∷ xs) ys h k = (h.0, both_solid xs ys h.1 k)

-- ---- one reading of the lines before the end

module _ (t : TaskValue) where
  pub front_solid : (v : Version) (lines : List (List ℕ)) (bs : List StateBox) (ss : List StateValue) → SpellsFront t v lines bs ss → EachWithout lines
  front_solid v lines bs ss front =
      subst EachWithout (sym front.lines_are) (
        first_solid v,
        both_solid front.box_lines front.state_lines
            (each_solid (SpellsBox t v) (λ line b is. is.one_line) front.box_lines bs front.spell_boxes)
            (each_solid (SpellsState t) (λ line s is. is.one_line) front.state_lines ss front.spell_states),
      )

  module _ (valid : IsValid t.raw) where
    one_states : (lines : List (List ℕ)) (ss us : List StateValue) → SpellEach (SpellsState t) lines ss → SpellEach (SpellsState t) lines us → ss ≡ us
    one_states [] [] [] h k = refl
    one_states [] [] (u ∷ us) h k = absurd k
    one_states [] (s ∷ ss) us h k = absurd h
    one_states (line ∷ lines) [] us h k = absurd h
    one_states (line ∷ lines) (s ∷ ss) [] h k = absurd k
    one_states (line ∷ lines) (s ∷ ss) (u ∷ us) h k =
        ap₂ (λ (x : StateValue) (xs : List StateValue). x ∷ xs) (one_state t valid line s u h.0 k.0) (one_states lines ss us h.1 k.1)

    -- lines of boxes and then of states are read in one way
    one_body : (v : Version) (ls ms : List (List ℕ)) (bs : List StateBox) (ss : List StateValue) (ks ns : List (List ℕ)) (cs : List StateBox) (us : List StateValue)
        → SpellEach (SpellsBox t v) ls bs → SpellEach (SpellsState t) ms ss → SpellEach (SpellsBox t v) ks cs → SpellEach (SpellsState t) ns us
        → ls ++ ms ≡ ks ++ ns → (bs ≡ cs) × (ss ≡ us)
    one_body v [] ms [] ss [] ns [] us h i j k same = (refl, one_states ms ss us i (subst (λ (z : List (List ℕ)). SpellEach (SpellsState t) z us) (sym same) k))
    one_body v [] ms [] ss [] ns (c ∷ cs) us h i j k same = absurd j
    one_body v [] ms [] ss (x ∷ ks) ns [] us h i j k same = absurd j
    one_body v [] [] [] ss (x ∷ ks) ns (c ∷ cs) us h i j k same = cc
    one_body v [] (y ∷ ms) [] [] (x ∷ ks) ns (c ∷ cs) us h i j k same = absurd i
    one_body v [] (y ∷ ms) [] (s ∷ ss) (x ∷ ks) ns (c ∷ cs) us h i j k same =
        let line : y ≡ x = cc in absurd (box_no_state t v x c s j.0 (subst (λ (z : List ℕ). SpellsState t z s) line i.0))
    one_body v [] ms (b ∷ bs) ss ks ns cs us h i j k same = absurd h
    one_body v (x ∷ ls) ms [] ss ks ns cs us h i j k same = absurd h
    one_body v (x ∷ ls) ms (b ∷ bs) ss [] [] [] us h i j k same = cc
    one_body v (x ∷ ls) ms (b ∷ bs) ss [] (y ∷ ns) [] [] h i j k same = absurd k
    one_body v (x ∷ ls) ms (b ∷ bs) ss [] (y ∷ ns) [] (u ∷ us) h i j k same =
        let line : y ≡ x = cc in absurd (box_no_state t v x b u h.0 (subst (λ (z : List ℕ). SpellsState t z u) line k.0))
    one_body v (x ∷ ls) ms (b ∷ bs) ss [] ns (c ∷ cs) us h i j k same = absurd j
    one_body v (x ∷ ls) ms (b ∷ bs) ss (y ∷ ks) ns [] us h i j k same = absurd j
    one_body v (x ∷ ls) ms (b ∷ bs) ss (y ∷ ks) ns (c ∷ cs) us h i j k same =
        let line : y ≡ x = cc in
        let tail : ls ++ ms ≡ ks ++ ns = cc in
        let rest = one_body v ls ms bs ss ks ns cs us h.1 i j.1 k tail in
        (ap₂ (λ (z : StateBox) (zs : List StateBox). z ∷ zs) (one_box t valid v x b c h.0 (subst (λ (z : List ℕ). SpellsBox t v z c) line j.0)) rest.0, rest.1)

    pub record AreSame (v w : Version) (bs cs : List StateBox) (ss us : List StateValue) : Type 0 where
      pub version : v ≡ w
      pub boxes : bs ≡ cs
      pub states : ss ≡ us

    pub one_front : (lines : List (List ℕ)) (v w : Version) (bs cs : List StateBox) (ss us : List StateValue) → SpellsFront t v lines bs ss → SpellsFront t w lines cs us → AreSame v w bs cs ss us
    one_front lines v w bs cs ss us h k =
        let all : first_line v ∷ (h.box_lines ++ h.state_lines) ≡ first_line w ∷ (k.box_lines ++ k.state_lines) = sym h.lines_are ∙ k.lines_are in
        let head : first_line v ≡ first_line w = cc in
        let tail : h.box_lines ++ h.state_lines ≡ k.box_lines ++ k.state_lines = cc in
        let version : v ≡ w = one_version v w head in
        let both = one_body w h.box_lines h.state_lines bs ss k.box_lines k.state_lines cs us
        (subst (λ (z : Version). SpellEach (SpellsBox t z) h.box_lines bs) version h.spell_boxes) h.spell_states k.spell_boxes k.spell_states tail in
        record { version = version; boxes = both.0; states = both.1 }

-- ---- the line with which a certificate goes on

module _ (t : TaskValue) where
  pub no_front_empty : (v : Version) (bs : List StateBox) (ss : List StateValue) → SpellsFront t v [] bs ss → ⊥
  no_front_empty v bs ss front = let none : [] ≡ first_line v ∷ (front.box_lines ++ front.state_lines) = front.lines_are in cc

  -- a certificate goes on with this line: the first line, or a box or a state for which there is room
  pub record Follows (before : List (List ℕ)) (line : List ℕ) : Type 0 where
    pub version : Version
    pub boxes : List StateBox
    pub states : List StateValue
    pub front : SpellsFront t version before boxes states
    pub adds : ((b : StateBox) × FollowsAsBox t version states line b × (length boxes < 40000)) ⊎ ((s : StateValue) × SpellsState t line s × (length states < 500000))

  abbrev pub IsNext : List (List ℕ) → List ℕ → Type 0
  IsNext before line = ((before ≡ []) × ((v : Version) × (line ≡ first_line v))) ⊎ Follows before line

  -- cut in a list of items
  pub record Cut {X : Type 0} (Spells : List ℕ → X → Type 0) (before : List (List ℕ)) (line : List ℕ) (xs : List X) : Type 0 where
    pub front : List X
    pub item : X
    pub back : List X
    pub whole : xs ≡ front ++ item ∷ back
    pub spell_front : SpellEach Spells before front
    pub spells : Spells line item

  cut_each : {X : Type 0} (Spells : List ℕ → X → Type 0) (before : List (List ℕ)) (line : List ℕ) (more : List (List ℕ)) (xs : List X) → SpellEach Spells (before ++ line ∷ more) xs → Cut Spells before line xs
  cut_each Spells [] line more [] h = absurd h
  cut_each Spells [] line more (x ∷ xs) h = record { front = []; item = x; back = xs; whole = refl; spell_front = tt; spells = h.0 }
  cut_each Spells (l ∷ before) line more [] h = absurd h
  cut_each {X} Spells (l ∷ before) line more (x ∷ xs) h =
      let rest = cut_each Spells before line more xs h.1 in
      record { front = x ∷ rest.front; item = rest.item; back = rest.back; whole = ap (λ (ys : List X). x ∷ ys) rest.whole; spell_front = (h.0, rest.spell_front); spells = rest.spells }

  -- the place of a line among lines of boxes and then of states
  abbrev pub Place : List (List ℕ) → List ℕ → List (List ℕ) → List (List ℕ) → Type 0
  Place before line ls ms = ((more : List (List ℕ)) × (ls ≡ before ++ line ∷ more)) ⊎ ((first : List (List ℕ)) × (more : List (List ℕ)) × (before ≡ ls ++ first) × (ms ≡ first ++ line ∷ more))

  place_in : (before : List (List ℕ)) (line : List ℕ) (more ls ms : List (List ℕ)) → before ++ line ∷ more ≡ ls ++ ms → Place before line ls ms
  place_in before line more [] ms same = inr (before, more, refl, sym same)
  place_in [] line more (l ∷ ls) ms same = let head : l ≡ line = cc in inl (ls, ap (λ (z : List ℕ). z ∷ ls) head)
  place_in (x ∷ before) line more (l ∷ ls) ms same =
      let head : l ≡ x = cc in
      let tail : before ++ line ∷ more ≡ ls ++ ms = cc in
      next head (place_in before line more ls ms tail)
    where
      next : l ≡ x → Place before line ls ms → Place (x ∷ before) line (l ∷ ls) ms
      next head (inl (others, is)) = inl (others, ap₂ (λ (z : List ℕ) (zs : List (List ℕ)). z ∷ zs) head is)
      next head (inr (first, others, is, there)) = inr (first, others, ap₂ (λ (z : List ℕ) (zs : List (List ℕ)). z ∷ zs) (sym head) is, there)

  module _ (v : Version) (bs : List StateBox) (ss : List StateValue) (before : List (List ℕ)) (line : List ℕ) where
    next_by : (ls ms : List (List ℕ)) → SpellEach (SpellsBox t v) ls bs → SpellEach (SpellsState t) ms ss → length bs ≤ 40000 → length ss ≤ 500000 → Place before line ls ms → Follows (first_line v ∷ before) line
    next_by ls ms h k few little (inl (more, is)) =
        let cut = cut_each (SpellsBox t v) before line more bs (subst (λ (z : List (List ℕ)). SpellEach (SpellsBox t v) z bs) is h) in
        record {
          version = v;
          boxes = cut.front;
          states = [];
          front = record {
            box_lines = before;
            state_lines = [];
            lines_are = ap (λ (z : List (List ℕ)). first_line v ∷ z) (sym (append-nil before));
            spell_boxes = cut.spell_front;
            spell_states = tt;
            few_boxes = omega (arith, ap length cut.whole, length-append cut.front (cut.item ∷ cut.back), few);
            few_states = omega arith;
          };
          adds = inl (cut.item, (refl, cut.spells), omega (arith, ap length cut.whole, length-append cut.front (cut.item ∷ cut.back), few));
        }
    next_by ls ms h k few little (inr (first, more, is, there)) =
        let cut = cut_each (SpellsState t) first line more ss (subst (λ (z : List (List ℕ)). SpellEach (SpellsState t) z ss) there k) in
        record {
          version = v;
          boxes = bs;
          states = cut.front;
          front = record {
            box_lines = ls;
            state_lines = first;
            lines_are = ap (λ (z : List (List ℕ)). first_line v ∷ z) is;
            spell_boxes = h;
            spell_states = cut.spell_front;
            few_boxes = few;
            few_states = omega (arith, ap length cut.whole, length-append cut.front (cut.item ∷ cut.back), little);
          };
          adds = inr (cut.item, cut.spells, omega (arith, ap length cut.whole, length-append cut.front (cut.item ∷ cut.back), little));
        }

  pub next_in : (v : Version) (before : List (List ℕ)) (line : List ℕ) (more : List (List ℕ)) (bs : List StateBox) (ss : List StateValue) → SpellsFront t v (before ++ line ∷ more) bs ss → IsNext before line
  next_in v [] line more bs ss front =
      let all : line ∷ more ≡ first_line v ∷ (front.box_lines ++ front.state_lines) = front.lines_are in
      let head : line ≡ first_line v = cc in inl (refl, (v, head))
  next_in v (x ∷ before) line more bs ss front =
      let all : x ∷ (before ++ line ∷ more) ≡ first_line v ∷ (front.box_lines ++ front.state_lines) = front.lines_are in
      let head : x ≡ first_line v = cc in
      let tail : before ++ line ∷ more ≡ front.box_lines ++ front.state_lines = cc in
      inr (subst (λ (z : List ℕ). Follows (z ∷ before) line) (sym head)
      (next_by v bs ss before line front.box_lines front.state_lines front.spell_boxes front.spell_states front.few_boxes front.few_states (place_in before line more front.box_lines front.state_lines tail)))
