-- The truth of a condition within the range, by what it is.
use Rattle.std.proofs.Common.{◌≡◌, ◌&&◌, ◌||◌, ℕ, Bool, true, false, not, List, [], ◌∷◌, Option, Some, None, refl, sym, ap, ap₂, ◌∙◌}
use Rattle.std.specs.Prelude.{bytes_eq, if◌then◌else◌}
use Rattle.std.specs.List.{list_all, list_any}
use Rattle.std.specs.FinSet as set
use Rattle.num_ends.specs.Decimal.{Decimal}
use Rattle.pddl_terms.specs.declared.names.Arg.{Arg}
use Rattle.pddl_terms.specs.declared.names.Atom.{Atom}
use Rattle.pddl_terms.specs.declared.names.Typed.{Typed}
use Rattle.pddl_terms.specs.declared.expressions.Expr.{Expr}
use Rattle.pddl_terms.specs.declared.conditions.Rel.{Rel}
use Rattle.pddl_terms.specs.declared.conditions.Cond.{Cond}
use Rattle.pddl_terms.specs.declared.conditions.Cond.TheVariants as c
use Rattle.pddl_meaning.specs.declared.answers.Holds.{Holds}
use Rattle.pddl_meaning.specs.declared.answers.Holds.TheVariants.{Yes, No, Over}
use Rattle.pddl_terms.specs.Texts.{argument_text, ground_text}
use Rattle.pddl_meaning.specs.Worlds.{WorldValue}
use Rattle.num_ends.specs.Range.{operands_fit}
use Rattle.pddl_meaning.specs.Values.{ranged_value, value_of}
use Rattle.pddl_meaning.specs.Truth.{both, is_in_bounds, is_true, ranged_truth, stands}
use Rattle.pddl_meaning.specs.internal.Connectives.{truth_of_all, truth_of_any, both_of, comparison, either_of, not_of, truth_of}
use Rattle.pddl_meaning.proofs.Bounds.{Bounded, value_bounded}
use Rattle.pddl_meaning.proofs.Layers.{true_And, true_Or, true_Not, true_Imply, true_Fact, true_Same, true_Cmp, each_And, each_Or, each_Not, each_Imply, each_Fact, each_Same, each_Cmp}

-- an answer by whether it is in the range and whether it is true
abbrev answer : Bool → Bool → Holds
answer fits truth = if not fits then Over else (if truth then Yes else No)

not_answer : (fits truth : Bool) → not_of (answer fits truth) ≡ answer fits (not truth)
not_answer true true = refl
not_answer true false = refl
not_answer false truth = refl

both_answer : (f t g u : Bool) → both_of (answer f t) (answer g u) ≡ answer (f && g) (t && u)
both_answer false t g u = refl
both_answer true true g u = refl
both_answer true false true true = refl
both_answer true false true false = refl
both_answer true false false u = refl

either_answer : (f t g u : Bool) → either_of (answer f t) (answer g u) ≡ answer (f && g) (t || u)
either_answer false t g u = refl
either_answer true false g u = refl
either_answer true true true true = refl
either_answer true true true false = refl
either_answer true true false u = refl

and_assoc : (a b c : Bool) → ((a && b) && c) ≡ (a && (b && c))
and_assoc true b c = refl
and_assoc false b c = refl

or_assoc : (a b c : Bool) → ((a || b) || c) ≡ (a || (b || c))
or_assoc true b c = refl
or_assoc false b c = refl

and_true : (a : Bool) → a ≡ (a && true)
and_true true = refl
and_true false = refl

or_false : (a : Bool) → a ≡ (a || false)
or_false true = refl
or_false false = refl

module _ (fits truth : Cond → Bool) where
  abbrev of : Cond → Holds
  of b = answer (fits b) (truth b)

  all_answers : (f t : Bool) (cs : List Cond) → truth_of_all of (answer f t) cs ≡ answer (f && list_all fits cs) (t && list_all truth cs)
  all_answers f t [] = ap₂ answer (and_true f) (and_true t)
  all_answers f t (b ∷ cs) =
      ap (λ (h : Holds). truth_of_all of h cs) (both_answer f t (fits b) (truth b)) ∙ all_answers (f && fits b) (t && truth b) cs
      ∙ ap₂ answer (and_assoc f (fits b) (list_all fits cs)) (and_assoc t (truth b) (list_all truth cs))

  any_answers : (f t : Bool) (cs : List Cond) → truth_of_any of (answer f t) cs ≡ answer (f && list_all fits cs) (t || list_any truth cs)
  any_answers f t [] = ap₂ answer (and_true f) (or_false t)
  any_answers f t (b ∷ cs) =
      ap (λ (h : Holds). truth_of_any of h cs) (either_answer f t (fits b) (truth b)) ∙ any_answers (f && fits b) (t || truth b) cs
      ∙ ap₂ answer (and_assoc f (fits b) (list_all fits cs)) (or_assoc t (truth b) (list_any truth cs))

-- a test of two values that are there within the range
same_both : (test : Decimal → Decimal → Bool) (x y u v : Option Decimal) → Bounded x u → Bounded y v → both operands_fit x y ≡ true → both test x y ≡ both test u v
same_both test None y u v f g h = cc
same_both test (Some a) None u v f g h = cc
same_both test (Some a) (Some b) u v f g h = ap₂ (both test) (sym (f a refl)) (sym (g b refl))

module _ (params : List Typed) (args : List (List ℕ)) (w : WorldValue) where
  abbrev fitting : Expr → Expr → Bool
  fitting e f = both operands_fit (ranged_value params args w e) (ranged_value params args w f)

  pub ranged_And : (cs : List Cond) → truth_of_all (ranged_truth params args w) Yes cs ≡ ranged_truth params args w (c.And cs)
  ranged_And cs =
      all_answers (is_in_bounds params args w) (is_true params args w) true true cs ∙ sym (ap₂ answer (each_And fitting cs) (true_And params args w cs))

  pub ranged_Or : (cs : List Cond) → truth_of_any (ranged_truth params args w) No cs ≡ ranged_truth params args w (c.Or cs)
  ranged_Or cs =
      any_answers (is_in_bounds params args w) (is_true params args w) true false cs ∙ sym (ap₂ answer (each_Or fitting cs) (true_Or params args w cs))

  pub ranged_Not : (b : Cond) → not_of (ranged_truth params args w b) ≡ ranged_truth params args w (c.Not b)
  ranged_Not b = not_answer (is_in_bounds params args w b) (is_true params args w b) ∙ sym (ap₂ answer (each_Not fitting b) (true_Not params args w b))

  pub ranged_Imply : (a b : Cond) → either_of (not_of (ranged_truth params args w a)) (ranged_truth params args w b) ≡ ranged_truth params args w (c.Imply a b)
  ranged_Imply a b =
      ap (λ (h : Holds). either_of h (ranged_truth params args w b)) (not_answer (is_in_bounds params args w a) (is_true params args w a))
      ∙ either_answer (is_in_bounds params args w a) (not (is_true params args w a)) (is_in_bounds params args w b) (is_true params args w b)
      ∙ sym (ap₂ answer (each_Imply fitting a b) (true_Imply params args w a b))

  pub ranged_Fact : (a : Atom) → truth_of (set.contains w.facts (ground_text params args a)) ≡ ranged_truth params args w (c.Fact a)
  ranged_Fact a = sym (ap₂ answer (each_Fact fitting a) (true_Fact params args w a))

  pub ranged_Same : (a b : Arg) → truth_of (bytes_eq (argument_text params args a) (argument_text params args b)) ≡ ranged_truth params args w (c.Same a b)
  ranged_Same a b = sym (ap₂ answer (each_Same fitting a b) (true_Same params args w a b))

  pub ranged_Cmp : (r : Rel) (e f : Expr) → comparison params args w r e f ≡ ranged_truth params args w (c.Cmp r e f)
  ranged_Cmp r e f = by_test (fitting e f) refl ∙ sym (ap₂ answer (each_Cmp fitting r e f) (true_Cmp params args w r e f))
    where
      by_test : (b : Bool) → fitting e f ≡ b
          → comparison params args w r e f ≡ answer (fitting e f) (both (stands r) (value_of params args w e) (value_of params args w f))
      by_test true h =
          rw h (ap truth_of (same_both (stands r) _ _ _ _ (value_bounded params args w e) (value_bounded params args w f) h))
      by_test false h = rw h refl
