-- The equations of folds over expressions and conditions, one for each variant.
use Rattle.std.proofs.Common.{◌≡◌, ℕ, Bool, ◌&&◌, ◌||◌, List, [], ◌∷◌, map, refl, sym, ap, ◌∙◌, All, subst}
use Rattle.std.specs.List.{list_all, list_any}
use Rattle.std.proofs.lemmas.List.Elements.{All-cons, All-nil}
use Rattle.num_ends.specs.Decimal.{Decimal}
use Rattle.ground_task.specs.declared.raw.Rel.{Rel}
use Rattle.ground_task.specs.declared.raw.GExpr.{GExpr, GExpr-F, fold-GExpr, fold-roll-GExpr, ind-GExpr, map-GExpr, roll-GExpr}
use Rattle.ground_task.specs.declared.raw.GExpr.TheVariants as e
use Rattle.ground_task.specs.declared.raw.GCond.{GCond, GCond-F, fold-GCond, fold-roll-GCond, ind-GCond, map-GCond, roll-GCond}
use Rattle.ground_task.specs.declared.raw.GCond.TheVariants as c
use Rattle.ground_task.specs.States.{StateValue}
use Rattle.ground_task.specs.Meaning.{fact_value, fluent_value, holds, holds_layer}
use Rattle.ground_task.specs.Plain.{is_plain_condition, plain_condition_layer}
use Rattle.ground_task.specs.Valid.{is_known_condition, known_condition_layer}

-- a test of a list of answers, where each answer is that of an item
pub list_all-map : {X : Type 0} (test : X → Bool) → (xs : List X) → list_all (λ b. b) (map test xs) ≡ list_all test xs
list_all-map test [] = refl
list_all-map test (x ∷ xs) = ap (λ (b : Bool). test x && b) (list_all-map test xs)

pub list_any-map : {X : Type 0} (test : X → Bool) → (xs : List X) → list_any (λ b. b) (map test xs) ≡ list_any test xs
list_any-map test [] = refl
list_any-map test (x ∷ xs) = ap (λ (b : Bool). test x || b) (list_any-map test xs)

-- a fold over expressions
pub fold-Const : {A : Type 0} (layer : GExpr-F A → A) → (d : Decimal) → fold-GExpr A layer (e.Const d) ≡ layer (GExpr-F.Const d)
fold-Const {A} layer d = ap (fold-GExpr A layer) (sym (e.rolls-Const d)) ∙ fold-roll-GExpr A layer (GExpr-F.Const d)

pub fold-Read : {A : Type 0} (layer : GExpr-F A → A) → (x : ℕ) → fold-GExpr A layer (e.Read x) ≡ layer (GExpr-F.Read x)
fold-Read {A} layer x = ap (fold-GExpr A layer) (sym (e.rolls-Read x)) ∙ fold-roll-GExpr A layer (GExpr-F.Read x)

pub fold-Add : {A : Type 0} (layer : GExpr-F A → A) → (a b : GExpr) → fold-GExpr A layer (e.Add a b) ≡ layer (GExpr-F.Add (fold-GExpr A layer a) (fold-GExpr A layer b))
fold-Add {A} layer a b = ap (fold-GExpr A layer) (sym (e.rolls-Add a b)) ∙ fold-roll-GExpr A layer (GExpr-F.Add a b)

pub fold-Sub : {A : Type 0} (layer : GExpr-F A → A) → (a b : GExpr) → fold-GExpr A layer (e.Sub a b) ≡ layer (GExpr-F.Sub (fold-GExpr A layer a) (fold-GExpr A layer b))
fold-Sub {A} layer a b = ap (fold-GExpr A layer) (sym (e.rolls-Sub a b)) ∙ fold-roll-GExpr A layer (GExpr-F.Sub a b)

pub fold-Mul : {A : Type 0} (layer : GExpr-F A → A) → (a b : GExpr) → fold-GExpr A layer (e.Mul a b) ≡ layer (GExpr-F.Mul (fold-GExpr A layer a) (fold-GExpr A layer b))
fold-Mul {A} layer a b = ap (fold-GExpr A layer) (sym (e.rolls-Mul a b)) ∙ fold-roll-GExpr A layer (GExpr-F.Mul a b)

-- a fold over conditions
pub fold-True : {A : Type 0} (layer : GCond-F A → A) → fold-GCond A layer c.True ≡ layer GCond-F.True
fold-True {A} layer = ap (fold-GCond A layer) (sym c.rolls-True) ∙ fold-roll-GCond A layer GCond-F.True

pub fold-False : {A : Type 0} (layer : GCond-F A → A) → fold-GCond A layer c.False ≡ layer GCond-F.False
fold-False {A} layer = ap (fold-GCond A layer) (sym c.rolls-False) ∙ fold-roll-GCond A layer GCond-F.False

pub fold-Fact : {A : Type 0} (layer : GCond-F A → A) → (f : ℕ) (truth : Bool) → fold-GCond A layer (c.Fact f truth) ≡ layer (GCond-F.Fact f truth)
fold-Fact {A} layer f truth = ap (fold-GCond A layer) (sym (c.rolls-Fact f truth)) ∙ fold-roll-GCond A layer (GCond-F.Fact f truth)

pub fold-Cmp : {A : Type 0} (layer : GCond-F A → A) → (r : Rel) (a b : GExpr) → fold-GCond A layer (c.Cmp r a b) ≡ layer (GCond-F.Cmp r a b)
fold-Cmp {A} layer r a b = ap (fold-GCond A layer) (sym (c.rolls-Cmp r a b)) ∙ fold-roll-GCond A layer (GCond-F.Cmp r a b)

pub fold-And : {A : Type 0} (layer : GCond-F A → A) → (cs : List GCond) → fold-GCond A layer (c.And cs) ≡ layer (GCond-F.And (map (fold-GCond A layer) cs))
fold-And {A} layer cs = ap (fold-GCond A layer) (sym (c.rolls-And cs)) ∙ fold-roll-GCond A layer (GCond-F.And cs)

pub fold-Or : {A : Type 0} (layer : GCond-F A → A) → (cs : List GCond) → fold-GCond A layer (c.Or cs) ≡ layer (GCond-F.Or (map (fold-GCond A layer) cs))
fold-Or {A} layer cs = ap (fold-GCond A layer) (sym (c.rolls-Or cs)) ∙ fold-roll-GCond A layer (GCond-F.Or cs)

-- conditions of several members
pub holds-And : (places : List ℕ) (s : StateValue) (cs : List GCond) → holds places s (c.And cs) ≡ list_all (holds places s) cs
holds-And places s cs = fold-And (holds_layer (fact_value s) (fluent_value places s)) cs ∙ list_all-map (holds places s) cs

pub holds-Or : (places : List ℕ) (s : StateValue) (cs : List GCond) → holds places s (c.Or cs) ≡ list_any (holds places s) cs
holds-Or places s cs = fold-Or (holds_layer (fact_value s) (fluent_value places s)) cs ∙ list_any-map (holds places s) cs

pub is_known-And : (facts fluents : ℕ) (cs : List GCond) → is_known_condition facts fluents (c.And cs) ≡ list_all (is_known_condition facts fluents) cs
is_known-And facts fluents cs =
    fold-And (known_condition_layer facts fluents) cs ∙ list_all-map (is_known_condition facts fluents) cs

pub is_known-Or : (facts fluents : ℕ) (cs : List GCond) → is_known_condition facts fluents (c.Or cs) ≡ list_all (is_known_condition facts fluents) cs
is_known-Or facts fluents cs =
    fold-Or (known_condition_layer facts fluents) cs ∙ list_all-map (is_known_condition facts fluents) cs

pub is_plain-And : (cs : List GCond) → is_plain_condition (c.And cs) ≡ list_all is_plain_condition cs
is_plain-And cs = fold-And plain_condition_layer cs ∙ list_all-map is_plain_condition cs

pub is_plain-Or : (cs : List GCond) → is_plain_condition (c.Or cs) ≡ list_all is_plain_condition cs
is_plain-Or cs = fold-Or plain_condition_layer cs ∙ list_all-map is_plain_condition cs

-- what holds of each item stands beside it
All-beside : {X : Type 0} (P : X → Type 0) → (es : List ((x : X) × P x)) → All P (map (λ e. e.0) es)
All-beside P [] = All-nil P
All-beside P (e ∷ es) = All-cons P e.0 (map (λ e. e.0) es) e.1 (All-beside P es)

induct_expression_layer : (P : GExpr → Type 0) → ((d : Decimal) → P (e.Const d)) → ((x : ℕ) → P (e.Read x)) → ((a b : GExpr) → P a → P b → P (e.Add a b)) → ((a b : GExpr) → P a → P b → P (e.Sub a b)) → ((a b : GExpr) → P a → P b → P (e.Mul a b)) → (y : GExpr-F ((x : GExpr) × P x)) → P (roll-GExpr (map-GExpr _ _ (λ p. p.0) y))
induct_expression_layer P const read add sub mul (GExpr-F.Const d) = subst P (sym (e.rolls-Const d)) (const d)
induct_expression_layer P const read add sub mul (GExpr-F.Read x) = subst P (sym (e.rolls-Read x)) (read x)
induct_expression_layer P const read add sub mul (GExpr-F.Add a b) =
    subst P (sym (e.rolls-Add a.0 b.0)) (add a.0 b.0 a.1 b.1)
induct_expression_layer P const read add sub mul (GExpr-F.Sub a b) =
    subst P (sym (e.rolls-Sub a.0 b.0)) (sub a.0 b.0 a.1 b.1)
induct_expression_layer P const read add sub mul (GExpr-F.Mul a b) =
    subst P (sym (e.rolls-Mul a.0 b.0)) (mul a.0 b.0 a.1 b.1)

-- induction over expressions, one case for each variant
pub induct_expression : (P : GExpr → Type 0) → ((d : Decimal) → P (e.Const d)) → ((x : ℕ) → P (e.Read x)) → ((a b : GExpr) → P a → P b → P (e.Add a b)) → ((a b : GExpr) → P a → P b → P (e.Sub a b)) → ((a b : GExpr) → P a → P b → P (e.Mul a b)) → (x : GExpr) → P x
induct_expression P const read add sub mul =
    ind-GExpr P (λ x y is. subst (λ (z : GExpr-F GExpr). P (roll-GExpr z)) is (induct_expression_layer P const read add sub mul y))

induct_condition_layer : (P : GCond → Type 0) → P c.True → P c.False → ((f : ℕ) (truth : Bool) → P (c.Fact f truth)) → ((r : Rel) (a b : GExpr) → P (c.Cmp r a b)) → ((cs : List GCond) → All P cs → P (c.And cs)) → ((cs : List GCond) → All P cs → P (c.Or cs)) → (y : GCond-F ((x : GCond) × P x)) → P (roll-GCond (map-GCond _ _ (λ p. p.0) y))
induct_condition_layer P always never fact cmp both either GCond-F.True = subst P (sym c.rolls-True) always
induct_condition_layer P always never fact cmp both either GCond-F.False = subst P (sym c.rolls-False) never
induct_condition_layer P always never fact cmp both either (GCond-F.Fact f truth) = subst P (sym (c.rolls-Fact f truth)) (fact f truth)
induct_condition_layer P always never fact cmp both either (GCond-F.Cmp r a b) = subst P (sym (c.rolls-Cmp r a b)) (cmp r a b)
induct_condition_layer P always never fact cmp both either (GCond-F.And es) =
    subst P (sym (c.rolls-And (map (λ e. e.0) es))) (both (map (λ e. e.0) es) (All-beside P es))
induct_condition_layer P always never fact cmp both either (GCond-F.Or es) =
    subst P (sym (c.rolls-Or (map (λ e. e.0) es))) (either (map (λ e. e.0) es) (All-beside P es))

-- induction over conditions, one case for each variant
pub induct_condition : (P : GCond → Type 0) → P c.True → P c.False → ((f : ℕ) (truth : Bool) → P (c.Fact f truth)) → ((r : Rel) (a b : GExpr) → P (c.Cmp r a b)) → ((cs : List GCond) → All P cs → P (c.And cs)) → ((cs : List GCond) → All P cs → P (c.Or cs)) → (x : GCond) → P x
induct_condition P always never fact cmp both either =
    ind-GCond P (λ x y is. subst (λ (z : GCond-F GCond). P (roll-GCond z)) is (induct_condition_layer P always never fact cmp both either y))
