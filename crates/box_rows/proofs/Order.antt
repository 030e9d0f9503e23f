-- Rows are ordered as their boxes are.
use Rattle.std.proofs.Common.{◌≡◌, ℕ, zero, suc, ◌<◌, ◌≤◌, ◌/◌, ◌%◌, Bool, true, false, not, cond, List, length, get_or, eqb-true, eq-eqb, refl, sym, ◌∙◌, subst, inl, inr, arith}
use Rattle.std.specs.Int.{bit_at}
use Rattle.std.proofs.lemmas.Bool.{and_parts, both_ways, cases_lt}
use Rattle.std.proofs.lemmas.Nat.Bits.{bit_at-lt, bit_at_above, bit_at_lowest}
use Rattle.num_ends.specs.Ends.{Interval, is_within, lower_covers}
use Rattle.num_ends.specs.declared.ends.End.{End}
use Rattle.ground_task.specs.States.{StateValue}
use Rattle.ground_task.specs.Tasks.{TaskValue}
use Rattle.box_model.specs.Boxes.{fact_in, fluent_in, is_may_within, LiesWithin}
use Rattle.box_model.specs.Demands.{covers}
use Rattle.box_model.specs.declared.caps.Side.{Side}
use Rattle.box_model.specs.declared.caps.Side.TheVariants.{Upper, Lower}
use Rattle.box_model.specs.declared.state_box.May.{May}
use Rattle.bound_words.specs.Rows.{IsPast, IsRowPast}
use Rattle.bound_words.specs.declared.system.Direction.{Direction}
use Rattle.bound_words.specs.declared.system.Direction.TheVariants.{Or}
use Rattle.box_rows.specs.BoxRows.{IsRanked, box_at, end_at, fact_at, fluent_at, may_with, says, start_row}
use Rattle.box_rows.specs.Instances.{IsInstance}
use Rattle.box_rows.specs.Ranks.{steps_by}
use Rattle.box_rows.specs.Rules.{end_word, ends_of}
use Rattle.box_rows.specs.Systems.{direction_of, system_of}
use Rattle.box_rows.specs.Tables.{SupportersValue}
use Rattle.box_rows.proofs.RowBoxes.{fact_in_box, fluent_in_box, row_box}
use Rattle.box_rows.proofs.SystemLaws.{each_word, end_direction, fact_direction, past_own, side_direction}

bit_said : (truth : Bool) (w : ℕ) → says truth w ≡ true → bit_at w (cond truth 0 1) ≡ 1
bit_said true w h = bit_at_lowest w ∙ eqb-true (w % 2) 1 h
bit_said false w h = eqb-true (w / 2 % 2) 1 h

no_more : (n m : ℕ) → n < 2 → (n ≡ 1 → m ≡ 1) → n ≤ m
no_more zero m h k = omega arith
no_more (suc zero) m h k = omega (arith, k refl)
no_more (suc (suc n)) m h k = absurd (omega (arith, h))

-- the bits of a word below 4
bits_past : (v w : ℕ) → v < 4 → ((truth : Bool) → says truth v ≡ true → says truth w ≡ true) → IsPast Or v w
bits_past v w few h = at
  where
    at : (i : ℕ) → bit_at v i ≤ bit_at w i
    at zero = no_more (bit_at v 0) (bit_at w 0) (bit_at-lt v 0) (λ e. bit_said true w (h true (eq-eqb (v % 2) 1 (sym (bit_at_lowest v) ∙ e))))
    at (suc zero) = no_more (bit_at v 1) (bit_at w 1) (bit_at-lt v 1) (λ e. bit_said false w (h false (eq-eqb (v / 2 % 2) 1 e)))
    at (suc (suc i)) = subst (λ (n : ℕ). n ≤ bit_at w (suc (suc i))) (sym (bit_at_above v 2 (suc (suc i)) few (omega arith))) (omega arith)

other_said : (truth m n : Bool) → is_may_within (may_with truth m) (may_with truth n) ≡ true → m ≡ true → n ≡ true
other_said true true true h k = refl
other_said true true false h k = h
other_said true false n h k = absurd cc
other_said false true true h k = refl
other_said false true false h k = h
other_said false false n h k = absurd cc

both_truths : (P : Bool → Type 0) (truth : Bool) → P truth → P (not truth) → (v : Bool) → P v
both_truths P true p q true = p
both_truths P true p q false = q
both_truths P false p q true = q
both_truths P false p q false = p

words_past : (side : Side) (ends : List End) (v w : ℕ) → v ≤ suc (length ends) → w ≤ suc (length ends) → steps_by side ends v ≤ steps_by side ends w → IsPast (side_direction side) v w
words_past Upper ends v w hv hw h = h
words_past Lower ends v w hv hw h = omega (arith, hv, hw, h)

module _ (t : TaskValue) (sup : SupportersValue) (s : StateValue) (ok : IsInstance t sup s) (a b : List ℕ)
    (past_a : IsRowPast (system_of t sup s) (start_row t sup s) a) (past_b : IsRowPast (system_of t sup s) (start_row t sup s) b)
    (ranked_a : IsRanked t sup s a) (ranked_b : IsRanked t sup s b) (within : LiesWithin (box_at t sup s a) (box_at t sup s b)) where
  fact_past : (f : ℕ) → f < length t.raw.facts → IsPast (direction_of t f) (get_or a f 0) (get_or b f 0)
  fact_past f h =
      let truth = get_or s.facts f false in
      let inside : is_may_within (fact_at t sup s a f) (fact_at t sup s b f) ≡ true =
      subst (λ (m : May). is_may_within m (fact_at t sup s b f) ≡ true) (fact_in_box t sup s ok a f h)
      (subst (λ (m : May). is_may_within (fact_in (box_at t sup s a) f) m ≡ true) (fact_in_box t sup s ok b f h)
      (within.facts f (subst (λ (n : ℕ). f < n) (sym (row_box t sup s ok a).as_many_facts) h))) in
      subst (λ (d : Direction). IsPast d (get_or a f 0) (get_or b f 0)) (sym (fact_direction t f h))
      (bits_past (get_or a f 0) (get_or b f 0) (ranked_a.bits f h)
      (both_truths (λ v. says v (get_or a f 0) ≡ true → says v (get_or b f 0) ≡ true) truth (λ k. past_own t sup s ok b past_b f h)
      (other_said truth (says (not truth) (get_or a f 0)) (says (not truth) (get_or b f 0)) inside)))

  ends_within : (side : Side) (x : ℕ) → x < length t.raw.fluents → covers side (end_at t sup s b side x) (end_at t sup s a side x) ≡ true
  ends_within side x h = at side
    where
      inside : is_within (fluent_at t sup s a x) (fluent_at t sup s b x) ≡ true
      inside =
          subst (λ (i : Interval). is_within i (fluent_at t sup s b x) ≡ true) (fluent_in_box t sup s ok a x h)
          (subst (λ (i : Interval). is_within (fluent_in (box_at t sup s a) x) i ≡ true) (fluent_in_box t sup s ok b x h)
          (within.fluents x (subst (λ (n : ℕ). x < n) (sym (row_box t sup s ok a).as_many_fluents) h)))

      at : (side : Side) → covers side (end_at t sup s b side x) (end_at t sup s a side x) ≡ true
      at Upper = (and_parts (lower_covers (end_at t sup s b Lower x) (end_at t sup s a Lower x)) _ inside).1
      at Lower = (and_parts (lower_covers (end_at t sup s b Lower x) (end_at t sup s a Lower x)) _ inside).0

  end_past : (side : Side) (x : ℕ) → x < length t.raw.fluents → IsPast (direction_of t (end_word t side x)) (get_or a (end_word t side x) 0) (get_or b (end_word t side x) 0)
  end_past side x h =
      let ends = ends_of sup side x in
      let v = get_or a (end_word t side x) 0 in
      let w = get_or b (end_word t side x) 0 in
      let steps : steps_by side ends v ≤ steps_by side ends w =
      elim (cases_lt (steps_by side ends w) (steps_by side ends v)) [
        | inl fewer ↦ absurd (both_ways (covers side (end_at t sup s b side x) (end_at t sup s a side x)) (ranked_a.first side x h (steps_by side ends w) fewer) (ends_within side x h))
        | inr more ↦ more
      ] in
      subst (λ (d : Direction). IsPast d v w) (sym (end_direction t side x h)) (words_past side ends v w (ranked_a.ranks side x h) (ranked_b.ranks side x h) steps)

  pub boxes_order : IsRowPast (system_of t sup s) a b
  boxes_order = each_word t (λ w. IsPast (direction_of t w) (get_or a w 0) (get_or b w 0)) fact_past end_past
