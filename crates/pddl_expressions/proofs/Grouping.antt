-- What is built of the operands that are grouped from the left, where nothing too high is built.
use Rattle.std.proofs.Common.{◌≡◌, ℕ, suc, ◌+◌, ◌<◌, ◌≤◌, Bool, true, false, max, List, [], ◌∷◌, ◌++◌, Option, Some, None, map, drop, length, refl, sym, ap, ap₂, ◌∙◌, arith}
use Rattle.std.specs.Prelude.{flat_map, fold, nat_lt, ◌==◌, if◌then◌else◌}
use Rattle.std.specs.Option.{option_map_or}
use Rattle.std.proofs.lemmas.Bool.Decides.{nat_tests}
use Rattle.num_ends.specs.Decimal.{Decimal, origin}
use Rattle.pddl_terms.specs.declared.names.Atom.{Atom}
use Rattle.pddl_terms.specs.declared.expressions.Op.{Op}
use Rattle.pddl_terms.specs.declared.expressions.Expr.{Expr, Expr-F, fold-roll-Expr}
use Rattle.pddl_terms.specs.declared.expressions.Expr.TheVariants as expr
use Rattle.pddl_terms.specs.Heights.{expression_height, expression_layer}
use Rattle.pddl_trees.specs.declared.faults.Fault.{Fault}
use Rattle.pddl_expressions.specs.declared.found.Found.{Found}
use Rattle.pddl_expressions.specs.declared.found.Found.TheVariants.{Misfit, TooHigh, Fine}
use Rattle.pddl_trees.specs.Faults.{all_noted}
use Rattle.pddl_trees.specs.Words.{operation_of}
use Rattle.pddl_trees.specs.Forms.{Form, Parsed, both}
use Rattle.pddl_trees.specs.Expressions.{expr_of, grouped, measured_expr, operation, read_of, too_high}
use Rattle.pddl_expressions.specs.Cut.{cut, cut_expr}
use Rattle.pddl_expressions.specs.internal.CutSteps.{paired, raised, height_faults, joined, with_operand, misfits, completed, operation_found}
use Rattle.pddl_trees.proofs.Noted.{noted_append}

-- ---- heights

pub height_of_Lit : (d : Decimal) (at : ℕ) → expression_height (expr.Lit d at) ≡ 1
height_of_Lit d at = ap expression_height (sym (expr.rolls-Lit d at)) ∙ fold-roll-Expr ℕ expression_layer (Expr-F.Lit d at)

pub height_of_Read : (a : Atom) → expression_height (expr.Read a) ≡ 1
height_of_Read a = ap expression_height (sym (expr.rolls-Read a)) ∙ fold-roll-Expr ℕ expression_layer (Expr-F.Read a)

pub height_of_Op : (at : ℕ) (o : Op) (x y : Expr) → expression_height (expr.Op at o x y) ≡ max (expression_height x) (expression_height y) + 1
height_of_Op at o x y = ap expression_height (sym (expr.rolls-Op at o x y)) ∙ fold-roll-Expr ℕ expression_layer (Expr-F.Op at o x y)

-- ---- cuts

pub low_cut : {A : Type 0} (height : A → ℕ) (x : A) (n : ℕ) → height x ≡ n → n ≤ 400 → cut height (Some x) ≡ Fine x n
low_cut height x n e low =
    let test : nat_lt 400 (height x) ≡ false = grind (arith, nat_tests) in
    ap (λ (b : Bool). if b then TooHigh else Fine x (height x)) test ∙ ap (Fine x) e

pub cut_Lit : (d : Decimal) (at : ℕ) → cut_expr (Some (expr.Lit d at)) ≡ Fine (expr.Lit d at) 1
cut_Lit d at = low_cut expression_height (expr.Lit d at) 1 (height_of_Lit d at) (omega arith)

pub cut_Read : (a : Atom) → cut_expr (Some (expr.Read a)) ≡ Fine (expr.Read a) 1
cut_Read a = low_cut expression_height (expr.Read a) 1 (height_of_Read a) (omega arith)

-- what is one higher than something is cut as that is raised
pub raised_cut : {A B : Type 0} (make : A → B) (x : A) (n : ℕ) (height : B → ℕ) → height (make x) ≡ n + 1 → raised make (Fine x n) ≡ cut height (Some (make x))
raised_cut make x n height up = cases (nat_lt n 400) refl
  where
    cases : (test : Bool) → nat_lt n 400 ≡ test → (if nat_lt n 400 then Fine (make x) (n + 1) else TooHigh) ≡ (if nat_lt 400 (height (make x)) then TooHigh else Fine (make x) (height (make x)))
    cases true e =
        let low : nat_lt 400 (height (make x)) ≡ false = grind (arith, nat_tests) in
        ap (λ (b : Bool). if b then Fine (make x) (n + 1) else TooHigh) e
        ∙ ap (Fine (make x)) (sym up)
        ∙ ap (λ (b : Bool). if b then TooHigh else Fine (make x) (height (make x))) (sym low)
    cases false e =
        let high : nat_lt 400 (height (make x)) ≡ true = grind (arith, nat_tests) in
        ap (λ (b : Bool). if b then Fine (make x) (n + 1) else TooHigh) e
        ∙ ap (λ (b : Bool). if b then TooHigh else Fine (make x) (height (make x))) (sym high)

pub high_cut : {B : Type 0} (y : B) (height : B → ℕ) → 400 < height y → TooHigh ≡ cut height (Some y)
high_cut y height high =
    let test : nat_lt 400 (height y) ≡ true = grind (arith, nat_tests) in
    ap (λ (b : Bool). if b then TooHigh else Fine y (height y)) (sym test)

-- two parts that are cut are joined as the cut of what they make
pub joined_cuts : {A B : Type 0} (make : A → A → B) (h : A → ℕ) (k : B → ℕ) → ((x y : A) → k (make x y) ≡ max (h x) (h y) + 1)
    → (e f : Option A) → raised (λ p. make p.0 p.1) (paired (cut h e) (cut h f)) ≡ cut k (both make e f)
joined_cuts make h k up None None = refl
joined_cuts make h k up None (Some y) = refl
joined_cuts make h k up (Some x) None = cases (nat_lt 400 (h x))
  where
    cases : (a : Bool) → raised (λ p. make p.0 p.1) (paired (if a then TooHigh else Fine x (h x)) Misfit) ≡ Misfit
    cases true = refl
    cases false = refl
joined_cuts {A} make h k up (Some x) (Some y) = cases (nat_lt 400 (h x)) (nat_lt 400 (h y)) refl refl
  where
    whole : k (make x y) ≡ max (h x) (h y) + 1
    whole = up x y

    cases : (a b : Bool) → nat_lt 400 (h x) ≡ a → nat_lt 400 (h y) ≡ b
        → raised (λ p. make p.0 p.1) (paired (if nat_lt 400 (h x) then TooHigh else Fine x (h x)) (if nat_lt 400 (h y) then TooHigh else Fine y (h y))) ≡ cut k (Some (make x y))
    cases true true e f =
        let size = up x y in
        ap₂ (λ (a b : Bool). raised (λ p. make p.0 p.1) (paired (if a then TooHigh else Fine x (h x)) (if b then TooHigh else Fine y (h y)))) e f
        ∙ high_cut (make x y) k (grind (arith, nat_tests))
    cases true false e f =
        let size = up x y in
        ap₂ (λ (a b : Bool). raised (λ p. make p.0 p.1) (paired (if a then TooHigh else Fine x (h x)) (if b then TooHigh else Fine y (h y)))) e f
        ∙ high_cut (make x y) k (grind (arith, nat_tests))
    cases false true e f =
        let size = up x y in
        ap₂ (λ (a b : Bool). raised (λ p. make p.0 p.1) (paired (if a then TooHigh else Fine x (h x)) (if b then TooHigh else Fine y (h y)))) e f
        ∙ high_cut (make x y) k (grind (arith, nat_tests))
    cases false false e f =
        ap₂ (λ (a b : Bool). raised (λ p. make p.0 p.1) (paired (if a then TooHigh else Fine x (h x)) (if b then TooHigh else Fine y (h y)))) e f
        ∙ raised_cut (λ (p : A × A). make p.0 p.1) (x, y) (max (h x) (h y)) k (up x y)

pub height_cut : {A : Type 0} (at : ℕ) (height : A → ℕ) (v : Option A) → height_faults at (cut height v) ≡ option_map_or (λ x. too_high at (height x)) v []
height_cut at height None = refl
height_cut at height (Some x) = cases (nat_lt 400 (height x)) refl
  where
    cases : (test : Bool) → nat_lt 400 (height x) ≡ test → height_faults at (if nat_lt 400 (height x) then TooHigh else Fine x (height x)) ≡ too_high at (height x)
    cases true e = rw e refl
    cases false e = rw e refl

-- ---- operations

joined_both : (at : ℕ) (o : Op) (e f : Option Expr) → joined at o (cut_expr e) (cut_expr f) ≡ cut_expr (both (expr.Op at o) e f)
joined_both at o e f = joined_cuts (expr.Op at o) expression_height expression_height (height_of_Op at o) e f

joined_all : (at : ℕ) (o : Op) (x : Option Expr) (ys : List (Option Expr)) → fold (with_operand at o) (Some (cut_expr x)) (map cut_expr ys) ≡ Some (cut_expr (fold (both (expr.Op at o)) x ys))
joined_all at o x [] = refl
joined_all at o x (y ∷ ys) =
    ap (λ (s : Found Expr). fold (with_operand at o) (Some s) (map cut_expr ys)) (joined_both at o x y)
    ∙ joined_all at o (both (expr.Op at o) x y) ys

-- operands that are cut are grouped as the cut of those that are grouped
grouped_cut : (at : ℕ) (o : Op) (xs : List (Option Expr)) → completed at o (length xs) (fold (with_operand at o) None (map cut_expr xs)) ≡ cut_expr (grouped at o xs)
grouped_cut at o [] = refl
grouped_cut at o (x ∷ []) =
    ap (λ (z : Found Expr). joined at o z (cut_expr x)) (sym (cut_Lit origin at)) ∙ joined_both at o (Some (expr.Lit origin at)) x
grouped_cut at o (x ∷ y ∷ ys) =
    let several : (suc (suc (length ys)) == 1) ≡ false = grind (arith, nat_tests) in
    ap (completed at o (suc (suc (length ys)))) (joined_all at o x (y ∷ ys))
    ∙ ap (λ (b : Bool). if b then joined at o (Fine (expr.Lit origin at) 1) (cut_expr (fold (both (expr.Op at o)) x (y ∷ ys))) else cut_expr (fold (both (expr.Op at o)) x (y ∷ ys))) several

abbrev value_of : Form → Option Expr
value_of t = t.expr.value

cut_each : (ts : List Form) → map (λ (t : Form). cut_expr t.expr.value) ts ≡ map cut_expr (map value_of ts)
cut_each [] = refl
cut_each (t ∷ ts) = ap (λ (xs : List (Found Expr)). cut_expr t.expr.value ∷ xs) (cut_each ts)

same_length : (ts : List Form) → length ts ≡ length (map value_of ts)
same_length [] = refl
same_length (t ∷ ts) = ap suc (same_length ts)

-- the operation that is built of operands
pub operation_value : (at : ℕ) (o : Op) (ts : List Form)
    → operation_found at o ts (fold (with_operand at o) None (map (λ (t : Form). cut_expr t.expr.value) ts)) ≡ cut_expr (measured_expr at (operation at o ts)).value
operation_value at o ts = cases (nat_lt 0 (length (misfits at o ts)))
  where
    built : completed at o (length ts) (fold (with_operand at o) None (map (λ (t : Form). cut_expr t.expr.value) ts)) ≡ cut_expr (grouped at o (map value_of ts))
    built =
        ap₂ (λ (n : ℕ) (xs : List (Found Expr)). completed at o n (fold (with_operand at o) None xs)) (same_length ts) (cut_each ts)
        ∙ grouped_cut at o (map value_of ts)

    cases : (b : Bool) → (if b then Misfit else completed at o (length ts) (fold (with_operand at o) None (map (λ (t : Form). cut_expr t.expr.value) ts)))
        ≡ cut_expr (if b then None else grouped at o (map value_of ts))
    cases true = refl
    cases false = built

pub operation_faults : (at : ℕ) (o : Op) (ts : List Form) (first : Option Fault) (found : Found Expr) → found ≡ cut_expr (measured_expr at (operation at o ts)).value
    → all_noted (all_noted (all_noted first (flat_map (λ (t : Form). t.expr.faults) ts)) (misfits at o ts)) (height_faults at found)
    ≡ all_noted first (measured_expr at (operation at o ts)).faults
operation_faults at o ts first found e =
    let mine = flat_map (λ (t : Form). t.expr.faults) ts in
    let value = (operation at o ts).value in
    let high = option_map_or (λ (x : Expr). too_high at (expression_height x)) value [] in
    ap₂ (λ (f : Option Fault) (g : List Fault). all_noted f g) (sym (noted_append first mine (misfits at o ts))) (ap (height_faults at) e ∙ height_cut at expression_height value)
    ∙ sym (noted_append first (mine ++ misfits at o ts) high)

-- a list by the operation that its first word stands for
pub expr_of_cases : (at : ℕ) (word : Option (List ℕ)) (ts : List Form) (a : Parsed Atom) (o : Option Op) → o ≡ option_map_or operation_of word None
    → expr_of at word ts a ≡ option_map_or (λ p. measured_expr at (operation at p (drop 1 ts))) o (read_of a)
expr_of_cases at None ts a o e = ap (λ (p : Option Op). option_map_or (λ q. measured_expr at (operation at q (drop 1 ts))) p (read_of a)) (sym e)
expr_of_cases at (Some w) ts a o e = ap (λ (p : Option Op). option_map_or (λ q. measured_expr at (operation at q (drop 1 ts))) p (read_of a)) (sym e)
