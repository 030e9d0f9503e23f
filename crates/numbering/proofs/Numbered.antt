-- Coded expressions and conditions by numbers, one equation for each variant.
use Rattle.std.proofs.Common.{◌≡◌, ℕ, Bool, List, [], ◌∷◌, map, refl, sym, ap, ap₂, ◌∙◌}
use Rattle.num_ends.specs.Decimal.{Decimal}
use Rattle.ground_task.specs.declared.raw.Rel.{Rel}
use Rattle.ground_task.specs.declared.raw.GExpr.{GExpr}
use Rattle.ground_task.specs.declared.raw.GExpr.TheVariants as e
use Rattle.ground_task.specs.declared.raw.GCond.{GCond}
use Rattle.ground_task.specs.declared.raw.GCond.TheVariants as c
use Rattle.ground_task.proofs.Trees as tree
use Rattle.ground_meaning.specs.Tasks.{number_in, numbered_condition, numbered_condition_layer, numbered_expression, numbered_layer}
use Rattle.coded_actions.specs.declared.coded.CodedExpr.{CodedExpr}
use Rattle.coded_actions.specs.declared.coded.CodedExpr.TheVariants as x
use Rattle.coded_actions.specs.declared.coded.CodedCond.{CodedCond}
use Rattle.coded_actions.specs.declared.coded.CodedCond.TheVariants as d
use Rattle.coded_actions.specs.Coded.{condition_of, expression_of}
use Rattle.coded_actions.proofs.Equations as coded

-- ---- expressions

pub expression_Const : (xs : List ℕ) (v : Decimal) → numbered_expression xs (expression_of (x.Const v)) ≡ e.Const v
expression_Const xs v = ap (numbered_expression xs) (coded.expression_Const v) ∙ tree.fold-Const (numbered_layer xs) v

pub expression_Read : (xs : List ℕ) (n : ℕ) → numbered_expression xs (expression_of (x.Read n)) ≡ e.Read (number_in xs n)
expression_Read xs n = ap (numbered_expression xs) (coded.expression_Read n) ∙ tree.fold-Read (numbered_layer xs) n

pub expression_Add : (xs : List ℕ) (a b : CodedExpr)
    → numbered_expression xs (expression_of (x.Add a b)) ≡ e.Add (numbered_expression xs (expression_of a)) (numbered_expression xs (expression_of b))
expression_Add xs a b = ap (numbered_expression xs) (coded.expression_Add a b) ∙ tree.fold-Add (numbered_layer xs) (expression_of a) (expression_of b)

pub expression_Sub : (xs : List ℕ) (a b : CodedExpr)
    → numbered_expression xs (expression_of (x.Sub a b)) ≡ e.Sub (numbered_expression xs (expression_of a)) (numbered_expression xs (expression_of b))
expression_Sub xs a b = ap (numbered_expression xs) (coded.expression_Sub a b) ∙ tree.fold-Sub (numbered_layer xs) (expression_of a) (expression_of b)

pub expression_Mul : (xs : List ℕ) (a b : CodedExpr)
    → numbered_expression xs (expression_of (x.Mul a b)) ≡ e.Mul (numbered_expression xs (expression_of a)) (numbered_expression xs (expression_of b))
expression_Mul xs a b = ap (numbered_expression xs) (coded.expression_Mul a b) ∙ tree.fold-Mul (numbered_layer xs) (expression_of a) (expression_of b)

-- ---- conditions

merged : (f : GCond → GCond) (cs : List CodedCond) → map f (map condition_of cs) ≡ map (λ c. f (condition_of c)) cs
merged f [] = refl
merged f (c ∷ cs) = ap (λ gs. f (condition_of c) ∷ gs) (merged f cs)

pub condition_True : (fs xs : List ℕ) → numbered_condition fs xs (condition_of d.True) ≡ c.True
condition_True fs xs = ap (numbered_condition fs xs) coded.condition_True ∙ tree.fold-True (numbered_condition_layer fs xs)

pub condition_False : (fs xs : List ℕ) → numbered_condition fs xs (condition_of d.False) ≡ c.False
condition_False fs xs = ap (numbered_condition fs xs) coded.condition_False ∙ tree.fold-False (numbered_condition_layer fs xs)

pub condition_Fact : (fs xs : List ℕ) (f : ℕ) (truth : Bool)
    → numbered_condition fs xs (condition_of (d.Fact f truth)) ≡ c.Fact (number_in fs f) truth
condition_Fact fs xs f truth =
    ap (numbered_condition fs xs) (coded.condition_Fact f truth) ∙ tree.fold-Fact (numbered_condition_layer fs xs) f truth

pub condition_Cmp : (fs xs : List ℕ) (r : Rel) (a b : CodedExpr)
    → numbered_condition fs xs (condition_of (d.Cmp r a b)) ≡ c.Cmp r (numbered_expression xs (expression_of a)) (numbered_expression xs (expression_of b))
condition_Cmp fs xs r a b =
    ap (numbered_condition fs xs) (coded.condition_Cmp r a b) ∙ tree.fold-Cmp (numbered_condition_layer fs xs) r (expression_of a) (expression_of b)

pub made_Cmp : (fs xs : List ℕ) (r : Rel) (a b : CodedExpr) (left right : GExpr) → left ≡ numbered_expression xs (expression_of a)
    → right ≡ numbered_expression xs (expression_of b) → c.Cmp r left right ≡ numbered_condition fs xs (condition_of (d.Cmp r a b))
made_Cmp fs xs r a b left right first second = ap₂ (c.Cmp r) first second ∙ sym (condition_Cmp fs xs r a b)

pub condition_And : (fs xs : List ℕ) (cs : List CodedCond)
    → numbered_condition fs xs (condition_of (d.And cs)) ≡ c.And (map (λ g. numbered_condition fs xs (condition_of g)) cs)
condition_And fs xs cs =
    ap (numbered_condition fs xs) (coded.condition_And cs) ∙ tree.fold-And (numbered_condition_layer fs xs) (map condition_of cs)
    ∙ ap c.And (merged (numbered_condition fs xs) cs)

pub condition_Or : (fs xs : List ℕ) (cs : List CodedCond)
    → numbered_condition fs xs (condition_of (d.Or cs)) ≡ c.Or (map (λ g. numbered_condition fs xs (condition_of g)) cs)
condition_Or fs xs cs =
    ap (numbered_condition fs xs) (coded.condition_Or cs) ∙ tree.fold-Or (numbered_condition_layer fs xs) (map condition_of cs)
    ∙ ap c.Or (merged (numbered_condition fs xs) cs)

pub made_And : (fs xs : List ℕ) (cs : List CodedCond) (members : List GCond) → members ≡ map (λ g. numbered_condition fs xs (condition_of g)) cs
    → c.And members ≡ numbered_condition fs xs (condition_of (d.And cs))
made_And fs xs cs members same = ap c.And same ∙ sym (condition_And fs xs cs)

pub made_Or : (fs xs : List ℕ) (cs : List CodedCond) (members : List GCond) → members ≡ map (λ g. numbered_condition fs xs (condition_of g)) cs
    → c.Or members ≡ numbered_condition fs xs (condition_of (d.Or cs))
made_Or fs xs cs members same = ap c.Or same ∙ sym (condition_Or fs xs cs)
