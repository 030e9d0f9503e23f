-- The truth of a condition within the range, by what it is.
use Rattle.std.proofs.Common.{◌≡◌, ◌&&◌, ◌||◌, ℕ, Bool, true, false, not, List, [], ◌∷◌, Option, Some, None, refl, sym, ap, ap₂, ◌∙◌}
use Rattle.std.specs.Prelude.{if◌then◌else◌}
use Rattle.std.specs.List.{list_all, list_any}
use Rattle.num_ends.specs.Decimal.{Decimal}
use Rattle.num_ends.specs.Range.{operands_fit}
use Rattle.ground_task.specs.declared.answers.Truth.{Truth}
use Rattle.ground_task.specs.declared.answers.Truth.TheVariants.{Yes, No, Over}
use Rattle.ground_task.specs.declared.raw.Rel.{Rel}
use Rattle.ground_task.specs.declared.raw.GExpr.{GExpr}
use Rattle.ground_task.specs.declared.raw.GCond.{GCond}
use Rattle.ground_task.specs.declared.raw.GCond.TheVariants as c
use Rattle.ground_task.specs.Inside.{answer_of, both_of, comparison, either_of, truth_of_all, truth_of_any}
use Rattle.ground_task.specs.Meaning.{fact_value, has_truth, holds, stands, value_of}
use Rattle.ground_task.specs.Ranged.{both, is_in_bounds, ranged_truth, ranged_value}
use Rattle.ground_task.specs.States.{StateValue}
use Rattle.ground_task.specs.Tasks.{TaskValue}
use Rattle.ground_task.proofs.Bounded.{Bounded, value_bounded}
use Rattle.ground_task.proofs.Layers.{bounds_True, bounds_False, bounds_Fact, bounds_Cmp, bounds_And, bounds_Or, holds_True, holds_False, holds_Fact, holds_Cmp}
use Rattle.ground_task.proofs.Trees.{holds-And, holds-Or}

-- an answer by whether it is in the range and whether it is true
abbrev answer : Bool → Bool → Truth
answer fits truth = if not fits then Over else (if truth then Yes else No)

both_answer : (f t g u : Bool) → both_of (answer f t) (answer g u) ≡ answer (f && g) (t && u)
both_answer false t g u = refl
both_answer true true g u = refl
both_answer true false true true = refl
both_answer true false true false = refl
both_answer true false false u = refl

either_answer : (f t g u : Bool) → either_of (answer f t) (answer g u) ≡ answer (f && g) (t || u)
either_answer false t g u = refl
either_answer true false g u = refl
either_answer true true true true = refl
either_answer true true true false = refl
either_answer true true false u = refl

and_assoc : (a b c : Bool) → ((a && b) && c) ≡ (a && (b && c))
and_assoc true b c = refl
and_assoc false b c = refl

or_assoc : (a b c : Bool) → ((a || b) || c) ≡ (a || (b || c))
or_assoc true b c = refl
or_assoc false b c = refl

and_true : (a : Bool) → a ≡ (a && true)
and_true true = refl
and_true false = refl

or_false : (a : Bool) → a ≡ (a || false)
or_false true = refl
or_false false = refl

module _ (fits truth : GCond → Bool) where
  abbrev of : GCond → Truth
  of b = answer (fits b) (truth b)

  all_answers : (f t : Bool) (cs : List GCond) → truth_of_all of (answer f t) cs ≡ answer (f && list_all fits cs) (t && list_all truth cs)
  all_answers f t [] = ap₂ answer (and_true f) (and_true t)
  all_answers f t (b ∷ cs) =
      ap (λ (h : Truth). truth_of_all of h cs) (both_answer f t (fits b) (truth b)) ∙ all_answers (f && fits b) (t && truth b) cs
      ∙ ap₂ answer (and_assoc f (fits b) (list_all fits cs)) (and_assoc t (truth b) (list_all truth cs))

  any_answers : (f t : Bool) (cs : List GCond) → truth_of_any of (answer f t) cs ≡ answer (f && list_all fits cs) (t || list_any truth cs)
  any_answers f t [] = ap₂ answer (and_true f) (or_false t)
  any_answers f t (b ∷ cs) =
      ap (λ (h : Truth). truth_of_any of h cs) (either_answer f t (fits b) (truth b)) ∙ any_answers (f && fits b) (t || truth b) cs
      ∙ ap₂ answer (and_assoc f (fits b) (list_all fits cs)) (or_assoc t (truth b) (list_any truth cs))

-- a test of two values that are there within the range
same_both : (test : Decimal → Decimal → Bool) (x y : Option Decimal) (u v : Decimal) → Bounded x u → Bounded y v → both operands_fit x y ≡ true → both test x y ≡ test u v
same_both test None y u v f g h = cc
same_both test (Some a) None u v f g h = cc
same_both test (Some a) (Some b) u v f g h = ap₂ test (sym (f a refl)) (sym (g b refl))

module _ (t : TaskValue) (s : StateValue) where
  abbrev fits : GCond → Bool
  fits = is_in_bounds t.places s

  abbrev true_in : GCond → Bool
  true_in = holds t.places s

  pub ranged_True : Yes ≡ ranged_truth t s c.True
  ranged_True = sym (ap₂ answer (bounds_True t.places s) (holds_True t.places s))

  pub ranged_False : No ≡ ranged_truth t s c.False
  ranged_False = sym (ap₂ answer (bounds_False t.places s) (holds_False t.places s))

  pub ranged_And : (cs : List GCond) → truth_of_all (ranged_truth t s) Yes cs ≡ ranged_truth t s (c.And cs)
  ranged_And cs = all_answers fits true_in true true cs ∙ sym (ap₂ answer (bounds_And t.places s cs) (holds-And t.places s cs))

  pub ranged_Or : (cs : List GCond) → truth_of_any (ranged_truth t s) No cs ≡ ranged_truth t s (c.Or cs)
  ranged_Or cs = any_answers fits true_in true false cs ∙ sym (ap₂ answer (bounds_Or t.places s cs) (holds-Or t.places s cs))

  pub ranged_Fact : (f : ℕ) (truth : Bool) → answer_of (has_truth truth (fact_value s f)) ≡ ranged_truth t s (c.Fact f truth)
  ranged_Fact f truth = sym (ap₂ answer (bounds_Fact t.places s f truth) (holds_Fact t.places s f truth))

  pub ranged_Cmp : (r : Rel) (x y : GExpr) → comparison t s r x y ≡ ranged_truth t s (c.Cmp r x y)
  ranged_Cmp r x y = by_test (both operands_fit (ranged_value t.places s x) (ranged_value t.places s y)) refl ∙ sym (ap₂ answer (bounds_Cmp t.places s r x y) (holds_Cmp t.places s r x y))
    where
      by_test : (b : Bool) → both operands_fit (ranged_value t.places s x) (ranged_value t.places s y) ≡ b
          → comparison t s r x y ≡ answer (both operands_fit (ranged_value t.places s x) (ranged_value t.places s y)) (stands r (value_of t.places s x) (value_of t.places s y))
      by_test true h =
          rw h (ap answer_of (same_both (stands r) _ _ _ _ (value_bounded t.places s x) (value_bounded t.places s y) h))
      by_test false h = rw h refl
