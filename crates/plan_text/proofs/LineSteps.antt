-- A line's step: read where it is spelled, and spelled where it is read.
use Rattle.std.proofs.Common.{◌≡◌, ℕ, Bool, true, false, not, ◌&&◌, eqb, List, [], ◌∷◌, ◌++◌, map, drop, Option, Some, None, refl, sym, ap, ap₂, ◌∙◌, subst, inl, inr, arith, append_assoc, append-nil}
use Rattle.std.specs.Prelude.{option_map, IsTrue}
use Rattle.std.proofs.lemmas.Bool.{cond-true, cond-false, cases_Bool, and_parts, and_from, eqb-true, ne_eqb, both_ways}
use Rattle.std.proofs.lemmas.Bool.Decides.{nat_tests}
use Rattle.std.proofs.lemmas.List.Folds.{list_all-map}
use Rattle.std.specs.List.{list_all, filter, slice_split, onto_first}
use Rattle.std.specs.Option.{option_map_or}
use Rattle.num_ends.specs.Names.{is_digit, is_name, begins_name, continues_name}
use Rattle.plan_text.specs.declared.step.Step.{Step}
use Rattle.plan_text.specs.Plans.{is_space, has_bytes, IsBlank, IsDigits, IsNumber, MayPrecede, is_named, SpellsStep, IsSkipped, LineReadsAs, IsBad}
use Rattle.num_ends.specs.Names.{folded}
use Rattle.plan_text.specs.internal.Reading.{front, past, behind_first, may_precede, may_follow, is_comment, is_skipped, folded_words, step_of, cut_at, step_between, step_behind, step_in, steps_in}
use Rattle.plan_text.proofs.Fronts.{begins, front_and_past, front_passes, past_stops, front_here, past_here, nothing_past}
use Rattle.plan_text.proofs.Parts.{first_part}
use Rattle.plan_text.proofs.Spelled.{bind_some, cond_some, same_some, all_through, all_joined, number_first, precede_read, precede_spelled, follow_read, follow_spelled}

-- ---- cuts at a byte

-- no byte is this one
abbrev pub lacks : ℕ → List ℕ → Bool
lacks byte text = list_all (λ b. not (eqb b byte)) text

pub cut_here : (byte : ℕ) (xs ys : List ℕ) → lacks byte xs ≡ true → cut_at byte (xs ++ byte ∷ ys) ≡ Some (xs, ys)
cut_here byte xs ys all =
    let stop : not (eqb byte byte) ≡ false = grind (arith, nat_tests) in
    ap₂ (λ (f r : List ℕ). option_map (λ (behind : List ℕ). (f, behind)) (behind_first r))
    (front_here (λ b. not (eqb b byte)) xs (byte ∷ ys) all stop) (past_here (λ b. not (eqb b byte)) xs (byte ∷ ys) all stop)

pub cut_spelled : (byte : ℕ) (text : List ℕ) (cut : List ℕ × List ℕ) → cut_at byte text ≡ Some cut → text ≡ cut.0 ++ byte ∷ cut.1
cut_spelled byte text cut e = by_rest (past (λ b. not (eqb b byte)) text) refl e
  where
    none_some : (y : List ℕ × List ℕ) → None ≡ Some y → ⊥
    none_some y e = cc

    some_pair : (x y : List ℕ × List ℕ) → Some x ≡ Some y → x ≡ y
    some_pair x y e = cc

    by_rest : (rest : List ℕ) → past (λ b. not (eqb b byte)) text ≡ rest
        → option_map (λ (behind : List ℕ). (front (λ b. not (eqb b byte)) text, behind)) (behind_first rest) ≡ Some cut → text ≡ cut.0 ++ byte ∷ cut.1
    by_rest [] is e = absurd (none_some cut e)
    by_rest (c ∷ cs) is e =
        let same = some_pair (front (λ b. not (eqb b byte)) text, cs) cut e in
        let stop : not (eqb c byte) ≡ false = ap (begins (λ b. not (eqb b byte))) (sym is) ∙ past_stops (λ b. not (eqb b byte)) text in
        let here : c ≡ byte = eqb-true c byte (grind (arith, stop)) in
        front_and_past (λ b. not (eqb b byte)) text ∙ ap (λ (r : List ℕ). front (λ b. not (eqb b byte)) text ++ r) is
        ∙ ap (λ (x : ℕ). front (λ b. not (eqb b byte)) text ++ x ∷ cs) here
        ∙ ap (λ (p : List ℕ × List ℕ). p.0 ++ byte ∷ p.1) same

-- ---- what stands round a step has no opening bracket

space_no_opening : (b : ℕ) → is_space b ≡ true → not (eqb b 40) ≡ true
space_no_opening b is = grind (arith, nat_tests)

digit_no_opening : (b : ℕ) → is_digit b ≡ true → not (eqb b 40) ≡ true
digit_no_opening b is = grind (arith, nat_tests)

blank_lacks : (text : List ℕ) → IsBlank text → lacks 40 text ≡ true
blank_lacks text blank = all_through is_space (λ b. not (eqb b 40)) space_no_opening text blank

digits_lack : (text : List ℕ) → IsDigits text → lacks 40 text ≡ true
digits_lack text is = all_through is_digit (λ b. not (eqb b 40)) digit_no_opening text is.all_digits

number_lacks : (text : List ℕ) → IsNumber text → lacks 40 text ≡ true
number_lacks text (inl digits) = digits_lack text digits
number_lacks text (inr (whole, places, spelled, some, more)) =
    ap (lacks 40) spelled ∙ all_joined (λ b. not (eqb b 40)) whole (46 ∷ places) (digits_lack whole some) (digits_lack places more)

precede_lacks : (text : List ℕ) → MayPrecede text → lacks 40 text ≡ true
precede_lacks text (inl blank) = blank_lacks text blank
precede_lacks text (inr is) =
    let p = λ (b : ℕ). not (eqb b 40) in
    let at_mark = all_joined p is.between (58 ∷ is.behind) (blank_lacks is.between is.blank_between) (blank_lacks is.behind is.blank_behind) in
    let at_number = all_joined p is.number (is.between ++ 58 ∷ is.behind) (number_lacks is.number is.a_number) at_mark in
    ap (lacks 40) is.spelled ∙ all_joined p is.before (is.number ++ (is.between ++ 58 ∷ is.behind)) (blank_lacks is.before is.blank_before) at_number

-- ---- the words of a step have no closing bracket

-- a byte that a name may have is no other one
module _ (byte : ℕ) (not_first : begins_name (folded byte) ≡ false) (not_more : continues_name (folded byte) ≡ false) where
  first_differs : (b : ℕ) → begins_name (folded b) ≡ true → not (eqb b byte) ≡ true
  first_differs b is = ap not (ne_eqb b byte (λ e. both_ways (begins_name (folded b)) (ap (λ (x : ℕ). begins_name (folded x)) e ∙ not_first) is))

  other_differs : (b : ℕ) → continues_name (folded b) ≡ true → not (eqb b byte) ≡ true
  other_differs b is = ap not (ne_eqb b byte (λ e. both_ways (continues_name (folded b)) (ap (λ (x : ℕ). continues_name (folded x)) e ∙ not_more) is))

  others_differ : (bs : List ℕ) → list_all continues_name (map folded bs) ≡ true → lacks byte bs ≡ true
  others_differ bs all =
      all_through (λ b. continues_name (folded b)) (λ b. not (eqb b byte)) other_differs bs (sym (list_all-map continues_name folded bs) ∙ all)

  name_lacks : (w : List ℕ) → is_name (map folded w) ≡ true → lacks byte w ≡ true
  name_lacks [] is = absurd (both_ways false refl is)
  name_lacks (b ∷ bs) is =
      let both = and_parts (begins_name (folded b)) (list_all continues_name (map folded bs)) is in
      and_from (not (eqb b byte)) (lacks byte bs) (first_differs b both.0) (others_differ bs both.1)

  -- the empty parts are no words
  parts_lack : (ws : List (List ℕ)) → list_all is_name (map (map folded) (filter has_bytes ws)) ≡ true → list_all (lacks byte) ws ≡ true
  parts_lack [] named = refl
  parts_lack ([] ∷ ws) named = parts_lack ws named
  parts_lack ((b ∷ bs) ∷ ws) named =
      let both = and_parts (is_name (map folded (b ∷ bs))) (list_all is_name (map (map folded) (filter has_bytes ws))) named in
      and_from (lacks byte (b ∷ bs)) (list_all (lacks byte) ws) (name_lacks (b ∷ bs) both.0) (parts_lack ws both.1)

  module _ (no_space : is_space byte ≡ false) where
    space_differs : (b : ℕ) → is_space b ≡ true → not (eqb b byte) ≡ true
    space_differs b is = ap not (ne_eqb b byte (λ e. both_ways (is_space b) (ap is_space e ∙ no_space) is))

    joined_lack : (text : List ℕ) → list_all (lacks byte) (slice_split is_space text) ≡ true → lacks byte text ≡ true
    joined_lack [] all = refl
    joined_lack (x ∷ xs) all =
        elim (cases_Bool (is_space x)) [
          | inl is ↦
              let split : slice_split is_space (x ∷ xs) ≡ [] ∷ slice_split is_space xs = cond-true (is_space x) _ (onto_first x (slice_split is_space xs)) is in
              and_from (not (eqb x byte)) (lacks byte xs) (space_differs x is) (joined_lack xs (sym (ap (list_all (lacks byte)) split) ∙ all))
          | inr other ↦
              let word = front (λ b. not (is_space b)) xs in
              let more = list_all (lacks byte) (drop 1 (slice_split is_space xs)) in
              let split : slice_split is_space (x ∷ xs) ≡ (x ∷ word) ∷ drop 1 (slice_split is_space xs) =
              cond-false (is_space x) ([] ∷ slice_split is_space xs) _ other ∙ ap (onto_first x) (first_part xs) in
              let both = and_parts (lacks byte (x ∷ word)) more (sym (ap (list_all (lacks byte)) split) ∙ all) in
              let first = and_parts (not (eqb x byte)) (lacks byte word) both.0 in
              and_from (not (eqb x byte)) (lacks byte xs) first.0
              (joined_lack xs (ap (list_all (lacks byte)) (first_part xs) ∙ and_from (lacks byte word) more first.1 both.1))
        ]

    pub inside_lacks : (inside : List ℕ) → list_all is_name (folded_words inside) ≡ true → lacks byte inside ≡ true
    inside_lacks inside named = joined_lack inside (parts_lack (slice_split is_space inside) named)

-- ---- steps

step_named : (ws : List (List ℕ)) (step : Step) → ws ≡ step.name ∷ step.args → IsTrue (is_named step) → step_of ws ≡ Some step
step_named ws step is named = ap step_of is ∙ cond-true (is_name step.name && list_all is_name step.args) (Some step) None named

pub step_read : (line : List ℕ) (step : Step) → SpellsStep line step → step_in line ≡ Some step
step_read line step is =
    let named : list_all is_name (folded_words is.inside) ≡ true = ap (list_all is_name) is.words ∙ is.named in
    let opening : cut_at 40 line ≡ Some (is.before, is.inside ++ 41 ∷ is.behind) =
    ap (cut_at 40) is.spelled ∙ cut_here 40 is.before (is.inside ++ 41 ∷ is.behind) (precede_lacks is.before is.may_precede) in
    let closing : cut_at 41 (is.inside ++ 41 ∷ is.behind) ≡ Some (is.inside, is.behind) =
    cut_here 41 is.inside is.behind (inside_lacks 41 refl refl refl is.inside named) in
    let round = and_from (may_precede is.before) (may_follow is.behind) (precede_read is.before is.may_precede) (follow_read is.behind is.may_follow) in
    ap (λ (o : Option (List ℕ × List ℕ)). option_map_or (λ c. step_behind c.0 c.1) o None) opening
    ∙ ap (λ (o : Option (List ℕ × List ℕ)). option_map_or (λ c. step_between is.before c.0 c.1) o None) closing
    ∙ cond-true (may_precede is.before && may_follow is.behind) (step_of (folded_words is.inside)) None round
    ∙ step_named (folded_words is.inside) step is.words is.named

step_spells : (ws : List (List ℕ)) (step : Step) → step_of ws ≡ Some step → (ws ≡ step.name ∷ step.args) × IsTrue (is_named step)
step_spells [] step e = absurd (none_some step e)
  where
    none_some : (y : Step) → None ≡ Some y → ⊥
    none_some y e = cc
step_spells (w ∷ ws) step e =
    let made = cond_some (is_name w && list_all is_name ws) (Some (record { name = w; args = ws })) step e in
    let same : Step = record { name = w; args = ws } in
    let is : same ≡ step = same_some same step made.1 in
    (ap (λ (s : Step). s.name ∷ s.args) is, subst (λ (s : Step). IsTrue (is_named s)) is made.0)

pub step_spelled : (line : List ℕ) (step : Step) → step_in line ≡ Some step → SpellsStep line step
step_spelled line step e =
    let opening = bind_some (cut_at 40 line) (λ c. step_behind c.0 c.1) step e in
    let closing = bind_some (cut_at 41 opening.0.1) (λ c. step_between opening.0.0 c.0 c.1) step opening.2 in
    let round = cond_some (may_precede opening.0.0 && may_follow closing.0.1) (step_of (folded_words closing.0.0)) step closing.2 in
    let both = and_parts (may_precede opening.0.0) (may_follow closing.0.1) round.0 in
    let words = step_spells (folded_words closing.0.0) step round.1 in
    record {
      before = opening.0.0;
      inside = closing.0.0;
      behind = closing.0.1;
      spelled =
          cut_spelled 40 line opening.0 opening.1
          ∙ ap (λ (r : List ℕ). opening.0.0 ++ 40 ∷ r) (cut_spelled 41 opening.0.1 closing.0 closing.1);
      may_precede = precede_spelled opening.0.0 both.0;
      words = words.0;
      named = words.1;
      may_follow = follow_spelled closing.0.1 both.1;
    }

-- ---- lines without a step

pub skipped_read : (line : List ℕ) → IsSkipped line → is_skipped line ≡ true
skipped_read line (inl blank) = ap is_comment (nothing_past is_space line blank)
skipped_read line (inr (before, comment, spelled, blank)) =
    ap is_comment (ap (past is_space) spelled ∙ past_here is_space before (59 ∷ comment) blank refl)

pub skipped_spelled : (line : List ℕ) → is_skipped line ≡ true → IsSkipped line
skipped_spelled line e = by_rest (past is_space line) refl e
  where
    by_rest : (rest : List ℕ) → past is_space line ≡ rest → is_comment rest ≡ true → IsSkipped line
    by_rest [] is e =
        let whole : line ≡ front is_space line =
        front_and_past is_space line ∙ ap (λ (r : List ℕ). front is_space line ++ r) is ∙ append-nil (front is_space line) in
        inl (ap (list_all is_space) whole ∙ front_passes is_space line)
    by_rest (b ∷ bs) is e =
        let whole : line ≡ front is_space line ++ 59 ∷ bs =
        front_and_past is_space line ∙ ap (λ (r : List ℕ). front is_space line ++ r) is
        ∙ ap (λ (c : ℕ). front is_space line ++ c ∷ bs) (eqb-true b 59 e) in
        inr (front is_space line, bs, whole, front_passes is_space line)

digit_is : (d : ℕ) → is_digit d ≡ true → (is_space d ≡ false) × (eqb d 59 ≡ false)
digit_is d is = (grind (arith, nat_tests), grind (arith, nat_tests))

pub step_not_skipped : (line : List ℕ) (step : Step) → SpellsStep line step → is_skipped line ≡ false
step_not_skipped line step is = by_front is.may_precede
  where
    by_front : MayPrecede is.before → is_skipped line ≡ false
    by_front (inl blank) = ap is_comment (ap (past is_space) is.spelled ∙ past_here is_space is.before (40 ∷ (is.inside ++ 41 ∷ is.behind)) blank refl)
    by_front (inr marked) =
        let rest = (marked.between ++ 58 ∷ marked.behind) ++ 40 ∷ (is.inside ++ 41 ∷ is.behind) in
        let first = number_first marked.number marked.a_number in
        let digit = digit_is first.0 first.3 in
        let cut : line ≡ marked.before ++ (first.0 ∷ (first.1 ++ rest)) =
        is.spelled ∙ ap (λ (t : List ℕ). t ++ 40 ∷ (is.inside ++ 41 ∷ is.behind)) marked.spelled
        ∙ append_assoc marked.before (marked.number ++ (marked.between ++ 58 ∷ marked.behind)) (40 ∷ (is.inside ++ 41 ∷ is.behind))
        ∙ ap (λ (t : List ℕ). marked.before ++ t)
        (append_assoc marked.number (marked.between ++ 58 ∷ marked.behind) (40 ∷ (is.inside ++ 41 ∷ is.behind))
        ∙ ap (λ (t : List ℕ). t ++ rest) first.2) in
        ap is_comment (ap (past is_space) cut ∙ past_here is_space marked.before (first.0 ∷ (first.1 ++ rest)) marked.blank_before digit.0) ∙ digit.1

-- ---- the steps of a line

pub line_read : (line : List ℕ) (steps : List Step) → LineReadsAs line steps → steps_in line ≡ Some steps
line_read line steps (inl (skipped, none)) =
    cond-true (is_skipped line) (Some []) (option_map (λ (s : Step). s ∷ []) (step_in line)) (skipped_read line skipped) ∙ ap (λ (s : List Step). Some s) (sym none)
line_read line steps (inr (step, one, spells)) =
    cond-false (is_skipped line) (Some []) (option_map (λ (s : Step). s ∷ []) (step_in line)) (step_not_skipped line step spells)
    ∙ ap (option_map (λ (s : Step). s ∷ [])) (step_read line step spells) ∙ ap (λ (s : List Step). Some s) (sym one)

pub line_spelled : (line : List ℕ) (steps : List Step) → steps_in line ≡ Some steps → LineReadsAs line steps
line_spelled line steps e =
    elim (cases_Bool (is_skipped line)) [
      | inl skipped ↦
          let same = same_some [] steps (sym (cond-true (is_skipped line) (Some []) (option_map (λ (s : Step). s ∷ []) (step_in line)) skipped) ∙ e) in
          inl (skipped_spelled line skipped, sym same)
      | inr other ↦ by_step (step_in line) refl (sym (cond-false (is_skipped line) (Some []) (option_map (λ (s : Step). s ∷ []) (step_in line)) other) ∙ e)
    ]
  where
    none_some : (y : List Step) → None ≡ Some y → ⊥
    none_some y e = cc

    by_step : (o : Option Step) → step_in line ≡ o → option_map (λ (s : Step). s ∷ []) o ≡ Some steps → LineReadsAs line steps
    by_step None is e = absurd (none_some steps e)
    by_step (Some step) is e = inr (step, sym (same_some (step ∷ []) steps e), step_spelled line step is)

pub line_bad : (line : List ℕ) → IsBad line → steps_in line ≡ None
line_bad line bad = by_steps (steps_in line) refl
  where
    by_steps : (o : Option (List Step)) → steps_in line ≡ o → steps_in line ≡ None
    by_steps None is = is
    by_steps (Some steps) is = absurd (bad steps (line_spelled line steps is))

pub bad_line : (line : List ℕ) → steps_in line ≡ None → IsBad line
bad_line line none steps is = none_some steps (sym none ∙ line_read line steps is)
  where
    none_some : (y : List Step) → None ≡ Some y → ⊥
    none_some y e = cc
