-- Induction over coded expressions and conditions, one case for each variant.
use Rattle.std.proofs.Common.{◌≡◌, ℕ, Bool, List, [], ◌∷◌, map, sym, All, subst}
use Rattle.std.proofs.lemmas.List.Elements.{All-cons, All-nil}
use Rattle.num_ends.specs.Decimal.{Decimal}
use Rattle.ground_task.specs.declared.raw.Rel.{Rel}
use Rattle.coded_actions.specs.declared.coded.CodedExpr.{CodedExpr, CodedExpr-F, ind-CodedExpr, map-CodedExpr, roll-CodedExpr}
use Rattle.coded_actions.specs.declared.coded.CodedExpr.TheVariants as x
use Rattle.coded_actions.specs.declared.coded.CodedCond.{CodedCond, CodedCond-F, ind-CodedCond, map-CodedCond, roll-CodedCond}
use Rattle.coded_actions.specs.declared.coded.CodedCond.TheVariants as d

-- what holds of each item stands beside it
All-beside : {X : Type 0} (P : X → Type 0) → (es : List ((x : X) × P x)) → All P (map (λ e. e.0) es)
All-beside P [] = All-nil P
All-beside P (e ∷ es) = All-cons P e.0 (map (λ e. e.0) es) e.1 (All-beside P es)

induct_expression_layer : (P : CodedExpr → Type 0) → ((v : Decimal) → P (x.Const v)) → ((n : ℕ) → P (x.Read n))
    → ((a b : CodedExpr) → P a → P b → P (x.Add a b)) → ((a b : CodedExpr) → P a → P b → P (x.Sub a b)) → ((a b : CodedExpr) → P a → P b → P (x.Mul a b))
    → (y : CodedExpr-F ((z : CodedExpr) × P z)) → P (roll-CodedExpr (map-CodedExpr _ _ (λ p. p.0) y))
induct_expression_layer P const read add sub mul (CodedExpr-F.Const v) = subst P (sym (x.rolls-Const v)) (const v)
induct_expression_layer P const read add sub mul (CodedExpr-F.Read n) = subst P (sym (x.rolls-Read n)) (read n)
induct_expression_layer P const read add sub mul (CodedExpr-F.Add a b) = subst P (sym (x.rolls-Add a.0 b.0)) (add a.0 b.0 a.1 b.1)
induct_expression_layer P const read add sub mul (CodedExpr-F.Sub a b) = subst P (sym (x.rolls-Sub a.0 b.0)) (sub a.0 b.0 a.1 b.1)
induct_expression_layer P const read add sub mul (CodedExpr-F.Mul a b) = subst P (sym (x.rolls-Mul a.0 b.0)) (mul a.0 b.0 a.1 b.1)

pub induct_expression : (P : CodedExpr → Type 0) → ((v : Decimal) → P (x.Const v)) → ((n : ℕ) → P (x.Read n))
    → ((a b : CodedExpr) → P a → P b → P (x.Add a b)) → ((a b : CodedExpr) → P a → P b → P (x.Sub a b)) → ((a b : CodedExpr) → P a → P b → P (x.Mul a b))
    → (z : CodedExpr) → P z
induct_expression P const read add sub mul =
    ind-CodedExpr P (λ z y is. subst (λ (l : CodedExpr-F CodedExpr). P (roll-CodedExpr l)) is (induct_expression_layer P const read add sub mul y))

induct_condition_layer : (P : CodedCond → Type 0) → P d.True → P d.False → ((f : ℕ) (truth : Bool) → P (d.Fact f truth))
    → ((r : Rel) (a b : CodedExpr) → P (d.Cmp r a b)) → ((cs : List CodedCond) → All P cs → P (d.And cs)) → ((cs : List CodedCond) → All P cs → P (d.Or cs))
    → (y : CodedCond-F ((z : CodedCond) × P z)) → P (roll-CodedCond (map-CodedCond _ _ (λ p. p.0) y))
induct_condition_layer P always never fact cmp both either CodedCond-F.True = subst P (sym d.rolls-True) always
induct_condition_layer P always never fact cmp both either CodedCond-F.False = subst P (sym d.rolls-False) never
induct_condition_layer P always never fact cmp both either (CodedCond-F.Fact f truth) = subst P (sym (d.rolls-Fact f truth)) (fact f truth)
induct_condition_layer P always never fact cmp both either (CodedCond-F.Cmp r a b) = subst P (sym (d.rolls-Cmp r a b)) (cmp r a b)
induct_condition_layer P always never fact cmp both either (CodedCond-F.And es) =
    subst P (sym (d.rolls-And (map (λ e. e.0) es))) (both (map (λ e. e.0) es) (All-beside P es))
induct_condition_layer P always never fact cmp both either (CodedCond-F.Or es) =
    subst P (sym (d.rolls-Or (map (λ e. e.0) es))) (either (map (λ e. e.0) es) (All-beside P es))

pub induct_condition : (P : CodedCond → Type 0) → P d.True → P d.False → ((f : ℕ) (truth : Bool) → P (d.Fact f truth))
    → ((r : Rel) (a b : CodedExpr) → P (d.Cmp r a b)) → ((cs : List CodedCond) → All P cs → P (d.And cs)) → ((cs : List CodedCond) → All P cs → P (d.Or cs))
    → (z : CodedCond) → P z
induct_condition P always never fact cmp both either =
    ind-CodedCond P (λ z y is. subst (λ (l : CodedCond-F CodedCond). P (roll-CodedCond l)) is (induct_condition_layer P always never fact cmp both either y))
