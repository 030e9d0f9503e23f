-- The parts of what can be evaluated can be evaluated.
use Rattle.std.proofs.Common.{◌≡◌, ◌≤◌, ◌<◌, ◌+◌, ℕ, Bool, true, List, [], ◌∷◌, length, All, Some, sym, ◌∙◌, arith}
use Rattle.std.proofs.lemmas.List.Elements.{All-cons, All-nil}
use Rattle.std.specs.Prelude.{nat_le, nat_lt}
use Rattle.std.specs.List.{list_all}
use Rattle.std.proofs.lemmas.Bool.Decides.{nat_tests}
use Rattle.num_ends.specs.Decimal.{Decimal}
use Rattle.ground_task.specs.declared.raw.Rel.{Rel}
use Rattle.ground_task.specs.declared.raw.GExpr.{GExpr}
use Rattle.ground_task.specs.declared.raw.GExpr.TheVariants as e
use Rattle.ground_task.specs.declared.raw.GCond.{GCond}
use Rattle.ground_task.specs.declared.raw.GCond.TheVariants as c
use Rattle.ground_task.specs.Inside.{IsDecidable, IsEvaluable}
use Rattle.ground_task.specs.Placed.{few_places_layer, has_few_places, places_layer, places_of}
use Rattle.ground_task.specs.Ranged.{ranged_value}
use Rattle.ground_task.specs.States.{StateValue}
use Rattle.ground_task.specs.Tasks.{TaskValue}
use Rattle.ground_task.specs.Valid.{is_known_condition, is_known_expression, known_condition_layer, known_expression_layer}
use Rattle.ground_task.proofs.Bounded.{bounded_places}
use Rattle.ground_task.proofs.Ranges.{both_true}
use Rattle.ground_task.proofs.Trees.{fold-Read, fold-Add, fold-Sub, fold-Mul, fold-Fact, fold-Cmp, fold-And, fold-Or, list_all-map}

below : (x n : ℕ) → nat_lt x n ≡ true → x < n
below x n h = grind (arith, nat_tests)

at_most : (p : ℕ) → nat_le p 18 ≡ true → p ≤ 18
at_most p h = grind (arith, nat_tests)

module _ (t : TaskValue) where
  pub known_Read : (x : ℕ) → IsEvaluable t (e.Read x) → x < length t.raw.fluents
  known_Read x h = below x (length t.raw.fluents) (sym (fold-Read (known_expression_layer (length t.raw.fluents)) x) ∙ h.known)

  module _ (a b : GExpr) where
    pub first_Add : IsEvaluable t (e.Add a b) → IsEvaluable t a
    first_Add h =
        let parts = both_true (is_known_expression (length t.raw.fluents) a) _ (sym (fold-Add (known_expression_layer (length t.raw.fluents)) a b) ∙ h.known) in
        record { known = parts.0; few = omega (arith, fold-Add (places_layer t.places) a b, h.few) }

    pub second_Add : IsEvaluable t (e.Add a b) → IsEvaluable t b
    second_Add h =
        let parts = both_true (is_known_expression (length t.raw.fluents) a) _ (sym (fold-Add (known_expression_layer (length t.raw.fluents)) a b) ∙ h.known) in
        record { known = parts.1; few = omega (arith, fold-Add (places_layer t.places) a b, h.few) }

    pub first_Sub : IsEvaluable t (e.Sub a b) → IsEvaluable t a
    first_Sub h =
        let parts = both_true (is_known_expression (length t.raw.fluents) a) _ (sym (fold-Sub (known_expression_layer (length t.raw.fluents)) a b) ∙ h.known) in
        record { known = parts.0; few = omega (arith, fold-Sub (places_layer t.places) a b, h.few) }

    pub second_Sub : IsEvaluable t (e.Sub a b) → IsEvaluable t b
    second_Sub h =
        let parts = both_true (is_known_expression (length t.raw.fluents) a) _ (sym (fold-Sub (known_expression_layer (length t.raw.fluents)) a b) ∙ h.known) in
        record { known = parts.1; few = omega (arith, fold-Sub (places_layer t.places) a b, h.few) }

    pub first_Mul : IsEvaluable t (e.Mul a b) → IsEvaluable t a
    first_Mul h =
        let parts = both_true (is_known_expression (length t.raw.fluents) a) _ (sym (fold-Mul (known_expression_layer (length t.raw.fluents)) a b) ∙ h.known) in
        record { known = parts.0; few = omega (arith, fold-Mul (places_layer t.places) a b, h.few) }

    pub second_Mul : IsEvaluable t (e.Mul a b) → IsEvaluable t b
    second_Mul h =
        let parts = both_true (is_known_expression (length t.raw.fluents) a) _ (sym (fold-Mul (known_expression_layer (length t.raw.fluents)) a b) ∙ h.known) in
        record { known = parts.1; few = omega (arith, fold-Mul (places_layer t.places) a b, h.few) }

    -- the places of a product's factors are few together
    pub few_Mul : (s : StateValue) (x y : Decimal) → IsEvaluable t (e.Mul a b) → Some x ≡ ranged_value t.places s a → Some y ≡ ranged_value t.places s b → x.p + y.p ≤ 18
    few_Mul s x y h one other =
        omega (arith, fold-Mul (places_layer t.places) a b, h.few, bounded_places t.places s a x (sym one), bounded_places t.places s b y (sym other))

  -- ---- conditions

  pub known_Fact : (f : ℕ) (truth : Bool) → IsDecidable t (c.Fact f truth) → f < length t.raw.facts
  known_Fact f truth h =
      below f (length t.raw.facts) (sym (fold-Fact (known_condition_layer (length t.raw.facts) (length t.raw.fluents)) f truth) ∙ h.known)

  pub first_Cmp : (r : Rel) (a b : GExpr) → IsDecidable t (c.Cmp r a b) → IsEvaluable t a
  first_Cmp r a b h =
      let parts = both_true (is_known_expression (length t.raw.fluents) a) _ (sym (fold-Cmp (known_condition_layer (length t.raw.facts) (length t.raw.fluents)) r a b) ∙ h.known) in
      let few = both_true (nat_le (places_of t.places a) 18) _ (sym (fold-Cmp (few_places_layer t.places) r a b) ∙ h.few) in
      record { known = parts.0; few = at_most (places_of t.places a) few.0 }

  pub second_Cmp : (r : Rel) (a b : GExpr) → IsDecidable t (c.Cmp r a b) → IsEvaluable t b
  second_Cmp r a b h =
      let parts = both_true (is_known_expression (length t.raw.fluents) a) _ (sym (fold-Cmp (known_condition_layer (length t.raw.facts) (length t.raw.fluents)) r a b) ∙ h.known) in
      let few = both_true (nat_le (places_of t.places a) 18) _ (sym (fold-Cmp (few_places_layer t.places) r a b) ∙ h.few) in
      record { known = parts.1; few = at_most (places_of t.places b) few.1 }

  pub each_member : (cs : List GCond) → list_all (is_known_condition (length t.raw.facts) (length t.raw.fluents)) cs ≡ true → list_all (has_few_places t.places) cs ≡ true → All (IsDecidable t) cs
  each_member [] h k = All-nil (IsDecidable t)
  each_member (g ∷ cs) h k =
      let known = both_true (is_known_condition (length t.raw.facts) (length t.raw.fluents) g) _ h in
      let few = both_true (has_few_places t.places g) _ k in
      All-cons (IsDecidable t) g cs (record { known = known.0; few = few.0 }) (each_member cs known.1 few.1)

  pub members_And : (cs : List GCond) → IsDecidable t (c.And cs) → All (IsDecidable t) cs
  members_And cs h =
      each_member cs
      (sym (fold-And (known_condition_layer (length t.raw.facts) (length t.raw.fluents)) cs ∙ list_all-map (is_known_condition (length t.raw.facts) (length t.raw.fluents)) cs) ∙ h.known)
      (sym (fold-And (few_places_layer t.places) cs ∙ list_all-map (has_few_places t.places) cs) ∙ h.few)

  pub members_Or : (cs : List GCond) → IsDecidable t (c.Or cs) → All (IsDecidable t) cs
  members_Or cs h =
      each_member cs
      (sym (fold-Or (known_condition_layer (length t.raw.facts) (length t.raw.fluents)) cs ∙ list_all-map (is_known_condition (length t.raw.facts) (length t.raw.fluents)) cs) ∙ h.known)
      (sym (fold-Or (few_places_layer t.places) cs ∙ list_all-map (has_few_places t.places) cs) ∙ h.few)
