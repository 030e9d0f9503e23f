-- The meaning of coded data, one equation for each variant.
use Rattle.std.proofs.Common.{◌≡◌, ℕ, Bool, List, [], ◌∷◌, map, refl, sym, ap, ◌∙◌}
use Rattle.num_ends.specs.Decimal.{Decimal}
use Rattle.ground_task.specs.declared.raw.Rel.{Rel}
use Rattle.ground_task.specs.declared.raw.GExpr.TheVariants as e
use Rattle.ground_task.specs.declared.raw.GCond.{GCond}
use Rattle.ground_task.specs.declared.raw.GCond.TheVariants as c
use Rattle.coded_actions.specs.declared.coded.CodedExpr.{CodedExpr, CodedExpr-F, fold-CodedExpr, fold-roll-CodedExpr}
use Rattle.coded_actions.specs.declared.coded.CodedExpr.TheVariants as x
use Rattle.coded_actions.specs.declared.coded.CodedCond.{CodedCond, CodedCond-F, fold-CodedCond, fold-roll-CodedCond}
use Rattle.coded_actions.specs.declared.coded.CodedCond.TheVariants as d
use Rattle.coded_actions.specs.Coded.{condition_layer, condition_of, expression_layer, expression_of}

-- ---- folds

pub fold-Const : {A : Type 0} (layer : CodedExpr-F A → A) → (v : Decimal) → fold-CodedExpr A layer (x.Const v) ≡ layer (CodedExpr-F.Const v)
fold-Const {A} layer v = ap (fold-CodedExpr A layer) (sym (x.rolls-Const v)) ∙ fold-roll-CodedExpr A layer (CodedExpr-F.Const v)

pub fold-Read : {A : Type 0} (layer : CodedExpr-F A → A) → (n : ℕ) → fold-CodedExpr A layer (x.Read n) ≡ layer (CodedExpr-F.Read n)
fold-Read {A} layer n = ap (fold-CodedExpr A layer) (sym (x.rolls-Read n)) ∙ fold-roll-CodedExpr A layer (CodedExpr-F.Read n)

pub fold-Add : {A : Type 0} (layer : CodedExpr-F A → A) → (a b : CodedExpr)
    → fold-CodedExpr A layer (x.Add a b) ≡ layer (CodedExpr-F.Add (fold-CodedExpr A layer a) (fold-CodedExpr A layer b))
fold-Add {A} layer a b = ap (fold-CodedExpr A layer) (sym (x.rolls-Add a b)) ∙ fold-roll-CodedExpr A layer (CodedExpr-F.Add a b)

pub fold-Sub : {A : Type 0} (layer : CodedExpr-F A → A) → (a b : CodedExpr)
    → fold-CodedExpr A layer (x.Sub a b) ≡ layer (CodedExpr-F.Sub (fold-CodedExpr A layer a) (fold-CodedExpr A layer b))
fold-Sub {A} layer a b = ap (fold-CodedExpr A layer) (sym (x.rolls-Sub a b)) ∙ fold-roll-CodedExpr A layer (CodedExpr-F.Sub a b)

pub fold-Mul : {A : Type 0} (layer : CodedExpr-F A → A) → (a b : CodedExpr)
    → fold-CodedExpr A layer (x.Mul a b) ≡ layer (CodedExpr-F.Mul (fold-CodedExpr A layer a) (fold-CodedExpr A layer b))
fold-Mul {A} layer a b = ap (fold-CodedExpr A layer) (sym (x.rolls-Mul a b)) ∙ fold-roll-CodedExpr A layer (CodedExpr-F.Mul a b)

pub fold-True : {A : Type 0} (layer : CodedCond-F A → A) → fold-CodedCond A layer d.True ≡ layer CodedCond-F.True
fold-True {A} layer = ap (fold-CodedCond A layer) (sym d.rolls-True) ∙ fold-roll-CodedCond A layer CodedCond-F.True

pub fold-False : {A : Type 0} (layer : CodedCond-F A → A) → fold-CodedCond A layer d.False ≡ layer CodedCond-F.False
fold-False {A} layer = ap (fold-CodedCond A layer) (sym d.rolls-False) ∙ fold-roll-CodedCond A layer CodedCond-F.False

pub fold-Fact : {A : Type 0} (layer : CodedCond-F A → A) → (f : ℕ) (truth : Bool) → fold-CodedCond A layer (d.Fact f truth) ≡ layer (CodedCond-F.Fact f truth)
fold-Fact {A} layer f truth = ap (fold-CodedCond A layer) (sym (d.rolls-Fact f truth)) ∙ fold-roll-CodedCond A layer (CodedCond-F.Fact f truth)

pub fold-Cmp : {A : Type 0} (layer : CodedCond-F A → A) → (r : Rel) (a b : CodedExpr) → fold-CodedCond A layer (d.Cmp r a b) ≡ layer (CodedCond-F.Cmp r a b)
fold-Cmp {A} layer r a b = ap (fold-CodedCond A layer) (sym (d.rolls-Cmp r a b)) ∙ fold-roll-CodedCond A layer (CodedCond-F.Cmp r a b)

pub fold-And : {A : Type 0} (layer : CodedCond-F A → A) → (cs : List CodedCond)
    → fold-CodedCond A layer (d.And cs) ≡ layer (CodedCond-F.And (map (fold-CodedCond A layer) cs))
fold-And {A} layer cs = ap (fold-CodedCond A layer) (sym (d.rolls-And cs)) ∙ fold-roll-CodedCond A layer (CodedCond-F.And cs)

pub fold-Or : {A : Type 0} (layer : CodedCond-F A → A) → (cs : List CodedCond)
    → fold-CodedCond A layer (d.Or cs) ≡ layer (CodedCond-F.Or (map (fold-CodedCond A layer) cs))
fold-Or {A} layer cs = ap (fold-CodedCond A layer) (sym (d.rolls-Or cs)) ∙ fold-roll-CodedCond A layer (CodedCond-F.Or cs)

-- ---- meanings

pub expression_Const : (v : Decimal) → expression_of (x.Const v) ≡ e.Const v
expression_Const v = fold-Const expression_layer v

pub expression_Read : (n : ℕ) → expression_of (x.Read n) ≡ e.Read n
expression_Read n = fold-Read expression_layer n

pub expression_Add : (a b : CodedExpr) → expression_of (x.Add a b) ≡ e.Add (expression_of a) (expression_of b)
expression_Add a b = fold-Add expression_layer a b

pub expression_Sub : (a b : CodedExpr) → expression_of (x.Sub a b) ≡ e.Sub (expression_of a) (expression_of b)
expression_Sub a b = fold-Sub expression_layer a b

pub expression_Mul : (a b : CodedExpr) → expression_of (x.Mul a b) ≡ e.Mul (expression_of a) (expression_of b)
expression_Mul a b = fold-Mul expression_layer a b

pub condition_True : condition_of d.True ≡ c.True
condition_True = fold-True condition_layer

pub condition_False : condition_of d.False ≡ c.False
condition_False = fold-False condition_layer

pub condition_Fact : (f : ℕ) (truth : Bool) → condition_of (d.Fact f truth) ≡ c.Fact f truth
condition_Fact f truth = fold-Fact condition_layer f truth

pub condition_Cmp : (r : Rel) (a b : CodedExpr) → condition_of (d.Cmp r a b) ≡ c.Cmp r (expression_of a) (expression_of b)
condition_Cmp r a b = fold-Cmp condition_layer r a b

pub condition_And : (cs : List CodedCond) → condition_of (d.And cs) ≡ c.And (map condition_of cs)
condition_And cs = fold-And condition_layer cs

pub condition_Or : (cs : List CodedCond) → condition_of (d.Or cs) ≡ c.Or (map condition_of cs)
condition_Or cs = fold-Or condition_layer cs
