-- A tree without faults says what it has to: all of it is there, and nothing in it is too high.
use Rattle.std.proofs.Common.{◌≡◌, ℕ, zero, suc, ◌<◌, ◌≤◌, Bool, true, false, List, [], ◌∷◌, ◌++◌, Option, Some, None, All, map, take, drop, length, refl, sym, ap, ap₂, subst, ◌∙◌, arith}
use Rattle.std.specs.Prelude.{flat_map, fold, nat_lt, option_map, ◌&&◌, if◌then◌else◌}
use Rattle.std.specs.Option.{option_map_or}
use Rattle.std.proofs.lemmas.Bool.Decides.{nat_tests}
use Rattle.std.proofs.lemmas.List.Elements.{All-nil, All-cons, All-head, All-tail}
use Rattle.num_ends.specs.Names.{is_name}
use Rattle.num_ends.specs.Decimal.{origin}
use Rattle.sexp_text.specs.declared.trees.Tree.{Tree, Tree-F, ind-Tree, map-Tree, roll-Tree}
use Rattle.sexp_text.specs.declared.trees.Tree.TheVariants as trees
use Rattle.pddl_terms.specs.declared.names.Arg.{Arg}
use Rattle.pddl_terms.specs.declared.names.Atom.{Atom}
use Rattle.pddl_terms.specs.declared.expressions.Op.{Op}
use Rattle.pddl_terms.specs.declared.expressions.Op.TheVariants as op
use Rattle.pddl_terms.specs.declared.expressions.Expr.{Expr}
use Rattle.pddl_terms.specs.declared.expressions.Expr.TheVariants as expr
use Rattle.pddl_terms.specs.declared.conditions.Rel.{Rel}
use Rattle.pddl_terms.specs.declared.conditions.Cond.{Cond}
use Rattle.pddl_terms.specs.declared.conditions.Cond.TheVariants as condition
use Rattle.pddl_terms.specs.Heights.{expression_height, condition_height}
use Rattle.pddl_trees.specs.declared.faults.Fault.{Fault}
use Rattle.pddl_expressions.specs.declared.conditions.Connective.{Connective}
use Rattle.pddl_expressions.specs.declared.conditions.Connective.TheVariants as connective
use Rattle.pddl_trees.specs.declared.faults.Reason.TheVariants.{TooDeep}
use Rattle.pddl_trees.specs.Faults.{fault_at}
use Rattle.pddl_trees.specs.Words.{is_number_word, is_symbol, is_variable, number_in, operation_of, word_in}
use Rattle.pddl_trees.specs.Forms.{Form, Parsed, all_of, both, extra, misfit, missing, shape_at, sound}
use Rattle.pddl_trees.specs.Atoms.{argument, argument_word, atom_of, headed_atom, with_arguments}
use Rattle.pddl_trees.specs.Conditions.{compared, comparison, cond_of, cond_of_conds, implied, is_argument, is_equal, measured_cond, negated, of_objects, same_objects}
use Rattle.pddl_trees.specs.Expressions.{expr_of, extra_operands, fewest_operands, grouped, leaf_expr, measured_expr, operation, read_of, too_high}
use Rattle.pddl_trees.specs.Trees.{form_of, forms_of, head_word, leaf_form, list_form}
use Rattle.pddl_expressions.specs.declared.found.Found.{Found}
use Rattle.pddl_expressions.specs.declared.found.Found.TheVariants.{Fine}
use Rattle.pddl_expressions.specs.Cut.{cut, cut_expr, cut_cond}
use Rattle.pddl_expressions.specs.internal.Connectives.{connective_of, connective_said}
use Rattle.pddl_expressions.proofs.Grouping.{height_of_Lit, height_of_Read, low_cut}
use Rattle.pddl_expressions.proofs.Comparing.{argument_fits}
use Rattle.pddl_expressions.proofs.Connecting.{said_by_connective}
use Rattle.pddl_trees.proofs.Trees.{form_of-Leaf, form_of-List}

-- a value is there
abbrev pub IsThere : {A : Type 0} → Option A → Type 0
IsThere {A} v = (x : A) × (v ≡ Some x)

-- it is there and isn't too high
abbrev pub IsLow : {A : Type 0} → (A → ℕ) → Option A → Type 0
IsLow {A} height v = (x : A) × (v ≡ Some x) × (height x ≤ 400)

-- what a form without faults says is there
pub record IsSound (t : Form) : Type 0 where
  pub atom : t.atom.faults ≡ [] → IsThere t.atom.value
  pub expr : t.expr.faults ≡ [] → IsLow expression_height t.expr.value
  pub cond : t.cond.faults ≡ [] → IsLow condition_height t.cond.value

-- ---- lists

pub no_front : {X : Type 0} (xs ys : List X) → xs ++ ys ≡ [] → xs ≡ []
no_front [] ys e = refl
no_front (x ∷ xs) ys e = cc

pub no_back : {X : Type 0} (xs ys : List X) → xs ++ ys ≡ [] → ys ≡ []
no_back [] ys e = e
no_back (x ∷ xs) ys e = cc

-- each value is there where each form without faults has one
each_there : {A X : Type 0} (faults : X → List Fault) (value_of : X → Option A) (P : X → Type 0) → ((x : X) → P x → faults x ≡ [] → IsThere (value_of x))
    → (xs : List X) → All P xs → flat_map faults xs ≡ [] → IsThere (all_of (map value_of xs))
each_there faults value_of P there [] all none = ([], refl)
each_there {A} faults value_of P there (x ∷ xs) all none =
    let first = there x (All-head P x xs all) (no_front (faults x) (flat_map faults xs) none) in
    let rest = each_there faults value_of P there xs (All-tail P x xs all) (no_back (faults x) (flat_map faults xs) none) in (
      first.0 ∷ rest.0,
      ap (λ (v : Option A). all_of (v ∷ map value_of xs)) first.1 ∙ ap (option_map (λ (ys : List A). first.0 ∷ ys)) rest.1,
    )

there_mapped : {A B : Type 0} (make : A → B) (v : Option A) → IsThere v → IsThere (option_map make v)
there_mapped make v (x, e) = (make x, ap (option_map make) e)

there_both : {A B C : Type 0} (make : A → B → C) (v : Option A) (w : Option B) → IsThere v → IsThere w → IsThere (both make v w)
there_both make v w (x, e) (y, f) = (make x y, ap₂ (both make) e f)

low_there : {A : Type 0} (height : A → ℕ) (v : Option A) → IsLow height v → IsThere v
low_there height v (x, e, low) = (x, e)

-- a value that is there and was measured without a fault isn't too high
measured_low : {A : Type 0} (at : ℕ) (height : A → ℕ) (v : Option A) → IsThere v → option_map_or (λ x. too_high at (height x)) v [] ≡ [] → IsLow height v
measured_low {A} at height v (x, e) none = (x, e, by_test (nat_lt 400 (height x)) refl (ap (λ (w : Option A). option_map_or (λ y. too_high at (height y)) w []) (sym e) ∙ none))
  where
    by_test : (b : Bool) → nat_lt 400 (height x) ≡ b → too_high at (height x) ≡ [] → height x ≤ 400
    by_test true t h =
        let none : fault_at at TooDeep ∷ [] ≡ [] = ap (λ (b : Bool). if b then fault_at at TooDeep ∷ [] else []) (sym t) ∙ h in
        cc
    by_test false t h = grind (arith, nat_tests)

both_true : (a b : Bool) → a && b ≡ true → (a ≡ true) × (b ≡ true)
both_true true b h = (refl, h)
both_true false b h = cc

-- ---- atoms

any_argument_there : (variables : Bool) (t : Form) → (argument variables t).faults ≡ [] → IsThere (argument variables t).value
any_argument_there variables t none = by_word t.word none
  where
    by_tests : (w : List ℕ) (a b : Bool) → is_name w ≡ a → (variables && is_variable w) ≡ b → (argument_word variables t.at w).faults ≡ [] → IsThere (argument_word variables t.at w).value
    by_tests w true b e f h = rw e (_, refl)
    by_tests w false true e f h = rw (e, f) (_, refl)
    by_tests w false false e f h =
        let fault : shape_at t.at ∷ [] ≡ [] = (rw (e, f) refl) ∙ h in
        cc

    by_word : (word : Option (List ℕ)) → (option_map_or (argument_word variables t.at) word (misfit Arg t.at)).faults ≡ []
        → IsThere (option_map_or (argument_word variables t.at) word (misfit Arg t.at)).value
    by_word None h = cc
    by_word (Some w) h = by_tests w (is_name w) (variables && is_variable w) refl refl h

argument_there : (t : Form) → (argument true t).faults ≡ [] → IsThere (argument true t).value
argument_there t none = any_argument_there true t none

any_argument : {X : Type 0} (f : X → Parsed Arg) → (xs : List X) → ((x : X) → (f x).faults ≡ [] → IsThere (f x).value)
    → flat_map (λ (a : Parsed Arg). a.faults) (map f xs) ≡ [] → IsThere (all_of (map (λ (a : Parsed Arg). a.value) (map f xs)))
any_argument f [] there none = ([], refl)
any_argument f (x ∷ xs) there none =
    let front = no_front (f x).faults (flat_map (λ (a : Parsed Arg). a.faults) (map f xs)) none in
    let back = no_back (f x).faults (flat_map (λ (a : Parsed Arg). a.faults) (map f xs)) none in
    let first = there x front in
    let rest = any_argument f xs there back in (
      first.0 ∷ rest.0,
      ap (λ (v : Option Arg). all_of (v ∷ map (λ (a : Parsed Arg). a.value) (map f xs))) first.1 ∙ ap (option_map (λ (ys : List Arg). first.0 ∷ ys)) rest.1,
    )

any_atom_there : (variables : Bool) (at : ℕ) (ts : List Form) → (atom_of variables at ts).faults ≡ [] → IsThere (atom_of variables at ts).value
any_atom_there variables at [] none = cc
any_atom_there variables at (t ∷ ts) none = by_word t.word none
  where
    by_test : (w : List ℕ) (b : Bool) → (if b then with_arguments (record { text = w; at = t.at }) (map (argument variables) ts) else misfit Atom t.at).faults ≡ []
        → IsThere (if b then with_arguments (record { text = w; at = t.at }) (map (argument variables) ts) else misfit Atom t.at).value
    by_test w true h =
        there_mapped (λ (xs : List Arg). record { head = record { text = w; at = t.at }; args = xs }) (all_of (map (λ (a : Parsed Arg). a.value) (map (argument variables) ts)))
        (any_argument (argument variables) ts (any_argument_there variables) h)
    by_test w false h = cc

    by_word : (word : Option (List ℕ)) → (option_map_or (λ w. headed_atom variables t.at w ts) word (misfit Atom t.at)).faults ≡ []
        → IsThere (option_map_or (λ w. headed_atom variables t.at w ts) word (misfit Atom t.at)).value
    by_word None h = cc
    by_word (Some w) h = by_test w (is_symbol w) h

pub atom_there : (at : ℕ) (ts : List Form) → (atom_of true at ts).faults ≡ [] → IsThere (atom_of true at ts).value
atom_there at ts none = any_atom_there true at ts none

-- ---- expressions

leaf_low : (at : ℕ) (w : List ℕ) → (leaf_expr at w).faults ≡ [] → IsLow expression_height (leaf_expr at w).value
leaf_low at w none = by_test (is_number_word w) none
  where
    number : Expr
    number = expr.Lit (option_map_or (λ d. d) (number_in w) origin) at

    by_test : (b : Bool) → (if b then sound Expr (expr.Lit (option_map_or (λ d. d) (number_in w) origin) at) else misfit Expr at).faults ≡ []
        → IsLow expression_height (if b then sound Expr (expr.Lit (option_map_or (λ d. d) (number_in w) origin) at) else misfit Expr at).value
    by_test true h = (expr.Lit (option_map_or (λ d. d) (number_in w) origin) at, refl, omega (arith, height_of_Lit (option_map_or (λ d. d) (number_in w) origin) at))
    by_test false h = cc

read_low : (a : Parsed Atom) → (a.faults ≡ [] → IsThere a.value) → (read_of a).faults ≡ [] → IsLow expression_height (read_of a).value
read_low a there none = let x = there none in (expr.Read x.0, ap (option_map expr.Read) x.1, omega (arith, height_of_Read x.0))

-- operands that are there are grouped
folded_there : (at : ℕ) (o : Op) (x : Option Expr) (ys : List (Option Expr)) → IsThere x → All IsThere ys → IsThere (fold (both (expr.Op at o)) x ys)
folded_there at o x [] there all = there
folded_there at o x (y ∷ ys) there all =
    folded_there at o (both (expr.Op at o) x y) ys (there_both (expr.Op at o) x y there (All-head IsThere y ys all)) (All-tail IsThere y ys all)

grouped_there : (at : ℕ) (o : Op) (xs : List (Option Expr)) → 0 < length xs → All IsThere xs → IsThere (grouped at o xs)
grouped_there at o [] some all = absurd (omega arith)
grouped_there at o (x ∷ []) some all = there_both (expr.Op at o) (Some (expr.Lit origin at)) x (expr.Lit origin at, refl) (All-head IsThere x [] all)
grouped_there at o (x ∷ y ∷ ys) some all = folded_there at o x (y ∷ ys) (All-head IsThere x (y ∷ ys) all) (All-tail IsThere x (y ∷ ys) all)

operands_there : (ts : List Form) → All IsSound ts → flat_map (λ (t : Form). t.expr.faults) ts ≡ [] → All IsThere (map (λ (t : Form). t.expr.value) ts)
operands_there [] all none = All-nil IsThere
operands_there (t ∷ ts) all none =
    let sound_first = All-head IsSound t ts all in
    let first = low_there expression_height t.expr.value (sound_first.expr (no_front t.expr.faults (flat_map (λ (u : Form). u.expr.faults) ts) none)) in
    All-cons IsThere t.expr.value (map (λ (u : Form). u.expr.value) ts) first
    (operands_there ts (All-tail IsSound t ts all) (no_back t.expr.faults (flat_map (λ (u : Form). u.expr.faults) ts) none))

enough : (at count : ℕ) (ts : List Form) → missing at count ts ≡ [] → count ≤ length ts
enough at count ts none = by_test (nat_lt (length ts) count) refl
  where
    by_test : (b : Bool) → nat_lt (length ts) count ≡ b → count ≤ length ts
    by_test true e =
        let fault : shape_at at ∷ [] ≡ [] = ap (λ (b : Bool). if b then shape_at at ∷ [] else []) (sym e) ∙ none in
        cc
    by_test false e = grind (arith, nat_tests)

one_at_least : (o : Op) → 1 ≤ fewest_operands o
one_at_least op.Add = omega arith
one_at_least op.Sub = omega arith
one_at_least op.Mul = omega arith
one_at_least op.Div = omega arith

same_length : (ts : List Form) → length (map (λ (t : Form). t.expr.value) ts) ≡ length ts
same_length [] = refl
same_length (t ∷ ts) = ap suc (same_length ts)

operation_low : (at : ℕ) (o : Op) (ts : List Form) → All IsSound ts → (measured_expr at (operation at o ts)).faults ≡ [] → IsLow expression_height (measured_expr at (operation at o ts)).value
operation_low at o ts all none =
    let mine = flat_map (λ (t : Form). t.expr.faults) ts in
    let count = missing at (fewest_operands o) ts ++ extra_operands o ts in
    let value = (operation at o ts).value in
    let high = option_map_or (λ (x : Expr). too_high at (expression_height x)) value [] in
    let parts = no_front (mine ++ count) high none in
    let counted = no_back mine count parts in
    let some : 1 ≤ length ts = omega (arith, enough at (fewest_operands o) ts (no_front (missing at (fewest_operands o) ts) (extra_operands o ts) counted), one_at_least o) in
    let longer : 0 < length (map (λ (t : Form). t.expr.value) ts) = omega (arith, same_length ts) in
    let there = grouped_there at o (map (λ (t : Form). t.expr.value) ts) longer (operands_there ts all (no_front mine count parts)) in
    let is_grouped : value ≡ grouped at o (map (λ (t : Form). t.expr.value) ts) =
    ap (λ (fs : List Fault). if nat_lt 0 (length fs) then None else grouped at o (map (λ (t : Form). t.expr.value) ts)) counted in
    measured_low at expression_height value (there.0, is_grouped ∙ there.1) (no_back (mine ++ count) high none)

all_dropped : (n : ℕ) (ts : List Form) → All IsSound ts → All IsSound (drop n ts)
all_dropped zero ts all = all
all_dropped (suc n) [] all = all
all_dropped (suc n) (t ∷ ts) all = all_dropped n ts (All-tail IsSound t ts all)

list_low : (at : ℕ) (word : Option (List ℕ)) (ts : List Form) (a : Parsed Atom) → All IsSound ts → (a.faults ≡ [] → IsThere a.value)
    → (expr_of at word ts a).faults ≡ [] → IsLow expression_height (expr_of at word ts a).value
list_low at None ts a all there none = read_low a there none
list_low at (Some w) ts a all there none = by_operation (operation_of w) none
  where
    by_operation : (o : Option Op) → (option_map_or (λ p. measured_expr at (operation at p (drop 1 ts))) o (read_of a)).faults ≡ []
        → IsLow expression_height (option_map_or (λ p. measured_expr at (operation at p (drop 1 ts))) o (read_of a)).value
    by_operation None h = read_low a there h
    by_operation (Some o) h = operation_low at o (drop 1 ts) (all_dropped 1 ts all) h

-- ---- conditions

cond_there : (t : Form) → IsSound t → t.cond.faults ≡ [] → IsThere t.cond.value
cond_there t s none = low_there condition_height t.cond.value (s.cond none)

expr_there : (t : Form) → IsSound t → t.expr.faults ≡ [] → IsThere t.expr.value
expr_there t s none = low_there expression_height t.expr.value (s.expr none)

-- the faults of the parts, of too few and of too many of them
pub parts_none : (xs ys zs : List Fault) → xs ++ ys ++ zs ≡ [] → (xs ≡ []) × (ys ≡ []) × (zs ≡ [])
parts_none xs ys zs e =
    let front = no_front (xs ++ ys) zs e in
    (no_front xs ys front, no_back xs ys front, no_back (xs ++ ys) zs e)

negated_there : (at : ℕ) (ts : List Form) → All IsSound ts → (cond_of_conds at 1 (negated ts) ts).faults ≡ [] → IsThere (negated ts)
negated_there at [] all none = cc
negated_there at (t ∷ []) all none =
    let parts = parts_none (t.cond.faults ++ []) [] [] none in
    there_mapped condition.Not t.cond.value (cond_there t (All-head IsSound t [] all) (no_front t.cond.faults [] parts.0))
negated_there at (t ∷ u ∷ us) all none =
    let parts = parts_none (t.cond.faults ++ []) (missing at 1 (t ∷ u ∷ us)) (shape_at u.at ∷ []) none in
    cc parts.2

implied_there : (at : ℕ) (ts : List Form) → All IsSound ts → (cond_of_conds at 2 (implied ts) ts).faults ≡ [] → IsThere (implied ts)
implied_there at [] all none = cc
implied_there at (t ∷ []) all none =
    let parts = parts_none (t.cond.faults ++ []) (shape_at at ∷ []) [] none in
    cc parts.1
implied_there at (t ∷ u ∷ []) all none =
    let parts = parts_none (t.cond.faults ++ (u.cond.faults ++ [])) [] [] none in
    let second = no_back t.cond.faults (u.cond.faults ++ []) parts.0 in
    there_both condition.Imply t.cond.value u.cond.value
    (cond_there t (All-head IsSound t (u ∷ []) all) (no_front t.cond.faults (u.cond.faults ++ []) parts.0))
    (cond_there u (All-head IsSound u [] (All-tail IsSound t (u ∷ []) all)) (no_front u.cond.faults [] second))
implied_there at (t ∷ u ∷ v ∷ vs) all none =
    let parts = parts_none (t.cond.faults ++ (u.cond.faults ++ [])) (missing at 2 (t ∷ u ∷ v ∷ vs)) (shape_at v.at ∷ []) none in
    cc parts.2

compared_there : (at : ℕ) (r : Rel) (ts : List Form) → All IsSound ts → flat_map (λ (t : Form). t.expr.faults) (take 2 ts) ++ missing at 2 ts ++ extra 2 ts ≡ [] → IsThere (compared r ts)
compared_there at r [] all none = cc
compared_there at r (t ∷ []) all none =
    let parts = parts_none (t.expr.faults ++ []) (shape_at at ∷ []) [] none in
    cc parts.1
compared_there at r (t ∷ u ∷ []) all none =
    let parts = parts_none (t.expr.faults ++ (u.expr.faults ++ [])) [] [] none in
    let second = no_back t.expr.faults (u.expr.faults ++ []) parts.0 in
    there_both (condition.Cmp r) t.expr.value u.expr.value
    (expr_there t (All-head IsSound t (u ∷ []) all) (no_front t.expr.faults (u.expr.faults ++ []) parts.0))
    (expr_there u (All-head IsSound u [] (All-tail IsSound t (u ∷ []) all)) (no_front u.expr.faults [] second))
compared_there at r (t ∷ u ∷ v ∷ vs) all none =
    let parts = parts_none (t.expr.faults ++ (u.expr.faults ++ [])) (missing at 2 (t ∷ u ∷ v ∷ vs)) (shape_at v.at ∷ []) none in
    cc parts.2

objects_there : (ts : List Form) → of_objects ts ≡ true → extra 2 ts ≡ [] → IsThere (same_objects ts)
objects_there [] h none = cc
objects_there (t ∷ []) h none = cc
objects_there (t ∷ u ∷ []) h none =
    let parts = both_true (is_argument t) (is_argument u) h in
    there_both condition.Same (argument true t).value (argument true u).value
    (argument_there t (argument_fits t parts.0))
    (argument_there u (argument_fits u parts.1))
objects_there (t ∷ u ∷ v ∷ vs) h none = cc

-- a comparison of objects or of numbers
abbrev chosen : ℕ → Rel → List Form → Bool → Parsed Cond
chosen at r ts b =
    if b then record { value = same_objects ts; faults = extra 2 ts }
    else record { value = compared r ts; faults = flat_map (λ t. t.expr.faults) (take 2 ts) ++ missing at 2 ts ++ extra 2 ts }

comparison_there : (at : ℕ) (r : Rel) (ts : List Form) → All IsSound ts → (comparison at r ts).faults ≡ [] → IsThere (comparison at r ts).value
comparison_there at r ts all none = by_test (is_equal r && of_objects ts) refl none
  where
    by_test : (b : Bool) → (is_equal r && of_objects ts) ≡ b → (chosen at r ts b).faults ≡ [] → IsThere (chosen at r ts b).value
    by_test true e h = objects_there ts (both_true (is_equal r) (of_objects ts) e).1 h
    by_test false e h = compared_there at r ts all h

connective_there : (at : ℕ) (k : Connective) (ts : List Form) (a : Parsed Atom) → All IsSound ts → (a.faults ≡ [] → IsThere a.value)
    → (connective_said at k ts a).faults ≡ [] → IsThere (connective_said at k ts a).value
connective_there at connective.And ts a all there none =
    there_mapped condition.And (all_of (map (λ (t : Form). t.cond.value) ts)) (each_there (λ (t : Form). t.cond.faults) (λ (t : Form). t.cond.value) IsSound cond_there ts all none)
connective_there at connective.Or ts a all there none =
    there_mapped condition.Or (all_of (map (λ (t : Form). t.cond.value) ts)) (each_there (λ (t : Form). t.cond.faults) (λ (t : Form). t.cond.value) IsSound cond_there ts all none)
connective_there at connective.Not ts a all there none = negated_there at ts all none
connective_there at connective.Imply ts a all there none = implied_there at ts all none
connective_there at (connective.Compared r) ts a all there none = comparison_there at r ts all none
connective_there at connective.Fact ts a all there none = there_mapped condition.Fact a.value (there none)

condition_there : (at : ℕ) (ts : List Form) (a : Parsed Atom) → All IsSound ts → (a.faults ≡ [] → IsThere a.value) → (cond_of at ts a).faults ≡ [] → IsThere (cond_of at ts a).value
condition_there at [] a all there none = (condition.And [], refl)
condition_there at (t ∷ ts) a all there none =
    let said = said_by_connective at t.word ts a in
    subst (λ (c : Parsed Cond). IsThere c.value) (sym said)
    (connective_there at (connective_of t.word) ts a (All-tail IsSound t ts all) there (ap (λ (c : Parsed Cond). c.faults) (sym said) ∙ none))

condition_low : (at : ℕ) (ts : List Form) (a : Parsed Atom) → All IsSound ts → (a.faults ≡ [] → IsThere a.value)
    → (measured_cond at (cond_of at ts a)).faults ≡ [] → IsLow condition_height (measured_cond at (cond_of at ts a)).value
condition_low at ts a all there none =
    let c = cond_of at ts a in
    let high = option_map_or (λ (x : Cond). too_high at (condition_height x)) c.value [] in
    measured_low at condition_height c.value (condition_there at ts a all there (no_front c.faults high none)) (no_back c.faults high none)

-- ---- trees

leaf_sound : (at : ℕ) (w : List ℕ) → IsSound (leaf_form at w)
leaf_sound at w = record { atom = λ none. cc; expr = leaf_low at w; cond = λ none. cc }

list_sound : (at : ℕ) (ts : List Form) → All IsSound ts → IsSound (list_form at ts)
list_sound at ts all =
    let a = atom_of true at ts in
    record {
      atom = atom_there at ts;
      expr = list_low at (head_word ts) ts a all (atom_there at ts);
      cond = condition_low at ts a all (atom_there at ts);
    }

All-beside : (text : List ℕ) → (es : List ((t : Tree) × IsSound (form_of text t))) → All IsSound (forms_of text (map (λ e. e.0) es))
All-beside text [] = All-nil IsSound
All-beside text (e ∷ es) = All-cons IsSound (form_of text e.0) (forms_of text (map (λ e. e.0) es)) e.1 (All-beside text es)

layer_sound : (text : List ℕ) (y : Tree-F ((t : Tree) × IsSound (form_of text t))) → IsSound (form_of text (roll-Tree (map-Tree _ _ (λ p. p.0) y)))
layer_sound text (Tree-F.Leaf span) =
    subst (λ (t : Tree). IsSound (form_of text t)) (sym (trees.rolls-Leaf span))
    (subst IsSound (sym (form_of-Leaf text span)) (leaf_sound span.from (word_in text span)))
layer_sound text (Tree-F.List span es) =
    subst (λ (t : Tree). IsSound (form_of text t)) (sym (trees.rolls-List span (map (λ e. e.0) es)))
    (subst IsSound (sym (form_of-List text span (map (λ e. e.0) es))) (list_sound span.from (forms_of text (map (λ e. e.0) es)) (All-beside text es)))

-- each tree that has no faults as an atom, an expression or a condition says one
pub tree_sound : (text : List ℕ) (t : Tree) → IsSound (form_of text t)
tree_sound text = ind-Tree (λ t. IsSound (form_of text t)) (λ x y is. subst (λ (z : Tree-F Tree). IsSound (form_of text (roll-Tree z))) is (layer_sound text y))

fine_cut : {A : Type 0} (height : A → ℕ) (v : Option A) (found : Found A) → found ≡ cut height v → IsLow height v → (x : A) × (v ≡ Some x) × (found ≡ Fine x (height x))
fine_cut height v found built (x, e, low) = (x, e, built ∙ ap (cut height) e ∙ low_cut height x (height x) refl low)

-- what is built of a tree without faults is what the tree says
pub expression_built : (text : List ℕ) (t : Tree) (found : Found Expr) → found ≡ cut_expr (form_of text t).expr.value → (form_of text t).expr.faults ≡ []
    → (x : Expr) × ((form_of text t).expr.value ≡ Some x) × (found ≡ Fine x (expression_height x))
expression_built text t found built none =
    let s = tree_sound text t in
    fine_cut expression_height (form_of text t).expr.value found built (s.expr none)

pub condition_built : (text : List ℕ) (t : Tree) (found : Found Cond) → found ≡ cut_cond (form_of text t).cond.value → (form_of text t).cond.faults ≡ []
    → (x : Cond) × ((form_of text t).cond.value ≡ Some x) × (found ≡ Fine x (condition_height x))
condition_built text t found built none =
    let s = tree_sound text t in
    fine_cut condition_height (form_of text t).cond.value found built (s.cond none)

pub atom_built : (variables : Bool) (at : ℕ) (ts : List Form) → (atom_of variables at ts).faults ≡ [] → IsThere (atom_of variables at ts).value
atom_built variables at ts none = any_atom_there variables at ts none
