-- What expressions and conditions mean when numbers stand in place of codes.
use Rattle.std.proofs.Common.{◌≡◌, ◌&&◌, ◌||◌, ℕ, Bool, true, false, List, [], ◌∷◌, map, All, refl, sym, ap, ap₂, ◌∙◌}
use Rattle.std.specs.List.{list_all, list_any}
use Rattle.std.proofs.lemmas.List.Elements.{All-head, All-tail}
use Rattle.num_ends.specs.Decimal.{Decimal, difference_of, product_of, sum_of}
use Rattle.ground_task.specs.declared.raw.GExpr.{GExpr}
use Rattle.ground_task.specs.declared.raw.GCond.{GCond}
use Rattle.ground_task.specs.declared.raw.GCond.TheVariants as c
use Rattle.ground_task.specs.Meaning.{holds_in, holds_layer, stands, value_in, value_layer}
use Rattle.ground_task.proofs.Trees.{fold-Add, fold-And, fold-Cmp, fold-Const, fold-Fact, fold-False, fold-Mul, fold-Or, fold-Read, fold-Sub, fold-True, induct_condition, induct_expression}
use Rattle.ground_meaning.specs.Tasks.{number_in, numbered_condition, numbered_condition_layer, numbered_expression, numbered_layer}
use Rattle.ground_meaning.proofs.Simplified.{holds_And, holds_Or}

module _ (xs : List ℕ) (v : ℕ → Decimal) where
  abbrev by_code : ℕ → Decimal
  by_code n = v (number_in xs n)

  pub value_numbered : (g : GExpr) → value_in v (numbered_expression xs g) ≡ value_in (λ n. v (number_in xs n)) g
  value_numbered =
      induct_expression (λ g. value_in v (numbered_expression xs g) ≡ value_in by_code g)
      (λ d. ap (value_in v) (fold-Const (numbered_layer xs) d) ∙ fold-Const (value_layer v) d ∙ sym (fold-Const (value_layer by_code) d))
      (λ x. ap (value_in v) (fold-Read (numbered_layer xs) x) ∙ fold-Read (value_layer v) (number_in xs x) ∙ sym (fold-Read (value_layer by_code) x))
      (λ a b f g.
      ap (value_in v) (fold-Add (numbered_layer xs) a b) ∙ fold-Add (value_layer v) (numbered_expression xs a) (numbered_expression xs b)
      ∙ ap₂ sum_of f g ∙ sym (fold-Add (value_layer by_code) a b))
      (λ a b f g.
      ap (value_in v) (fold-Sub (numbered_layer xs) a b) ∙ fold-Sub (value_layer v) (numbered_expression xs a) (numbered_expression xs b)
      ∙ ap₂ difference_of f g ∙ sym (fold-Sub (value_layer by_code) a b))
      (λ a b f g.
      ap (value_in v) (fold-Mul (numbered_layer xs) a b) ∙ fold-Mul (value_layer v) (numbered_expression xs a) (numbered_expression xs b)
      ∙ ap₂ product_of f g ∙ sym (fold-Mul (value_layer by_code) a b))

module _ (fs xs : List ℕ) (facts : ℕ → Bool) (v : ℕ → Decimal) where
  abbrev true_by_code : ℕ → Bool
  true_by_code n = facts (number_in fs n)

  abbrev value_by_code : ℕ → Decimal
  value_by_code n = v (number_in xs n)

  abbrev IsSame : GCond → Type 0
  IsSame g = holds_in facts v (numbered_condition fs xs g) ≡ holds_in true_by_code value_by_code g

  all_same : (gs : List GCond) → All IsSame gs → list_all (holds_in facts v) (map (numbered_condition fs xs) gs) ≡ list_all (holds_in true_by_code value_by_code) gs
  all_same [] h = refl
  all_same (g ∷ gs) h = ap₂ (λ (a b : Bool). a && b) (All-head IsSame g gs h) (all_same gs (All-tail IsSame g gs h))

  any_same : (gs : List GCond) → All IsSame gs → list_any (holds_in facts v) (map (numbered_condition fs xs) gs) ≡ list_any (holds_in true_by_code value_by_code) gs
  any_same [] h = refl
  any_same (g ∷ gs) h = ap₂ (λ (a b : Bool). a || b) (All-head IsSame g gs h) (any_same gs (All-tail IsSame g gs h))

  pub holds_numbered : (g : GCond) → holds_in facts v (numbered_condition fs xs g) ≡ holds_in (λ n. facts (number_in fs n)) (λ n. v (number_in xs n)) g
  holds_numbered =
      induct_condition IsSame
      (ap (holds_in facts v) (fold-True (numbered_condition_layer fs xs)) ∙ fold-True (holds_layer facts v) ∙ sym (fold-True (holds_layer true_by_code value_by_code)))
      (ap (holds_in facts v) (fold-False (numbered_condition_layer fs xs)) ∙ fold-False (holds_layer facts v) ∙ sym (fold-False (holds_layer true_by_code value_by_code)))
      (λ f truth. ap (holds_in facts v) (fold-Fact (numbered_condition_layer fs xs) f truth) ∙ of_fact f truth)
      (λ r a b.
      ap (holds_in facts v) (fold-Cmp (numbered_condition_layer fs xs) r a b) ∙ fold-Cmp (holds_layer facts v) r (numbered_expression xs a) (numbered_expression xs b)
      ∙ ap₂ (stands r) (value_numbered xs v a) (value_numbered xs v b) ∙ sym (fold-Cmp (holds_layer true_by_code value_by_code) r a b))
      (λ gs h.
      ap (holds_in facts v) (fold-And (numbered_condition_layer fs xs) gs) ∙ holds_And facts v (map (numbered_condition fs xs) gs)
      ∙ all_same gs h ∙ sym (holds_And true_by_code value_by_code gs))
      (λ gs h.
      ap (holds_in facts v) (fold-Or (numbered_condition_layer fs xs) gs) ∙ holds_Or facts v (map (numbered_condition fs xs) gs)
      ∙ any_same gs h ∙ sym (holds_Or true_by_code value_by_code gs))
    where
      of_fact : (f : ℕ) (truth : Bool) → holds_in facts v (c.Fact (number_in fs f) truth) ≡ holds_in true_by_code value_by_code (c.Fact f truth)
      of_fact f true = fold-Fact (holds_layer facts v) (number_in fs f) true ∙ sym (fold-Fact (holds_layer true_by_code value_by_code) f true)
      of_fact f false = fold-Fact (holds_layer facts v) (number_in fs f) false ∙ sym (fold-Fact (holds_layer true_by_code value_by_code) f false)
