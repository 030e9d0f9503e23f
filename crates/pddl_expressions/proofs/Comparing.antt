-- Comparisons by their parts.
use Rattle.std.proofs.Common.{◌≡◌, ℕ, suc, ◌+◌, Bool, true, false, max, List, [], ◌∷◌, ◌++◌, Option, Some, None, take, drop, length, refl, sym, ap, ap₂, ◌∙◌, arith, append_assoc}
use Rattle.std.specs.Prelude.{flat_map, ◌==◌, ◌&&◌, ◌||◌, if◌then◌else◌}
use Rattle.std.specs.Option.{option_map_or}
use Rattle.std.proofs.lemmas.Bool.Decides.{nat_tests}
use Rattle.std.proofs.lemmas.List.{append-nil}
use Rattle.num_ends.specs.Names.{is_name}
use Rattle.sexp_text.specs.declared.trees.Tree.{Tree}
use Rattle.pddl_terms.specs.declared.names.Arg.{Arg}
use Rattle.pddl_terms.specs.declared.expressions.Expr.{Expr}
use Rattle.pddl_terms.specs.declared.conditions.Rel.{Rel}
use Rattle.pddl_terms.specs.declared.conditions.Cond.{Cond-F, fold-roll-Cond}
use Rattle.pddl_terms.specs.declared.conditions.Cond.TheVariants as condition
use Rattle.pddl_terms.specs.Heights.{expression_height, condition_height, condition_layer}
use Rattle.pddl_trees.specs.declared.faults.Fault.{Fault}
use Rattle.pddl_expressions.specs.declared.found.Found.{Found}
use Rattle.pddl_expressions.specs.declared.found.Found.TheVariants.{Misfit, Fine}
use Rattle.pddl_trees.specs.Faults.{all_noted}
use Rattle.pddl_trees.specs.Words.{is_variable}
use Rattle.pddl_trees.specs.Forms.{Form, misfit, both, first_of}
use Rattle.pddl_trees.specs.Atoms.{argument, argument_word}
use Rattle.pddl_trees.specs.Conditions.{compared, is_argument, of_objects, same_objects}
use Rattle.pddl_trees.specs.Trees.{forms_of}
use Rattle.pddl_expressions.specs.Cut.{cut_cond, cut_expr}
use Rattle.pddl_expressions.specs.internal.CutSteps.{compared_found, where_count}
use Rattle.pddl_trees.proofs.Noted.{noted_append}
use Rattle.pddl_trees.proofs.Trees.{same_length}
use Rattle.pddl_expressions.proofs.Grouping.{joined_cuts, low_cut}

pub height_of_Same : (a b : Arg) → condition_height (condition.Same a b) ≡ 1
height_of_Same a b = ap condition_height (sym (condition.rolls-Same a b)) ∙ fold-roll-Cond ℕ condition_layer (Cond-F.Same a b)

pub height_of_Cmp : (r : Rel) (x y : Expr) → condition_height (condition.Cmp r x y) ≡ max (expression_height x) (expression_height y) + 1
height_of_Cmp r x y = ap condition_height (sym (condition.rolls-Cmp r x y)) ∙ fold-roll-Cond ℕ condition_layer (Cond-F.Cmp r x y)

pub cut_Same : (a b : Arg) → cut_cond (Some (condition.Same a b)) ≡ Fine (condition.Same a b) 1
cut_Same a b = low_cut condition_height (condition.Same a b) 1 (height_of_Same a b) (omega arith)

-- ---- values by the number of parts

many_parts : (n : ℕ) → (suc (suc (suc n)) == 2) ≡ false
many_parts n = grind (arith, nat_tests)

pub same_by_count : (ts : List Form) → cut_cond (same_objects ts)
    ≡ where_count 2 ts (cut_cond (both condition.Same (first_of (λ t. (argument true t).value) (drop 0 ts)) (first_of (λ t. (argument true t).value) (drop 1 ts))))
same_by_count [] = refl
same_by_count (t ∷ []) = refl
same_by_count (t ∷ u ∷ []) = refl
same_by_count (t ∷ u ∷ v ∷ vs) = ap (λ (b : Bool). if b then cut_cond (both condition.Same (argument true t).value (argument true u).value) else Misfit) (sym (many_parts (length vs)))

pub compared_by_count : (r : Rel) (ts : List Form) → cut_cond (compared r ts)
    ≡ where_count 2 ts (compared_found r (cut_expr (first_of (λ t. t.expr.value) (drop 0 ts))) (cut_expr (first_of (λ t. t.expr.value) (drop 1 ts))))
compared_by_count r [] = refl
compared_by_count r (t ∷ []) = refl
compared_by_count r (t ∷ u ∷ []) = sym (joined_cuts (condition.Cmp r) expression_height condition_height (height_of_Cmp r) t.expr.value u.expr.value)
compared_by_count r (t ∷ u ∷ v ∷ vs) = ap (λ (b : Bool). if b then compared_found r (cut_expr t.expr.value) (cut_expr u.expr.value) else Misfit) (sym (many_parts (length vs)))

-- ---- faults

-- the faults of the first two parts
pub two_parts : (f : Form → List Fault) (ts : List Form) → flat_map f (take 2 ts) ≡ flat_map f (take 1 (drop 0 ts)) ++ flat_map f (take 1 (drop 1 ts))
two_parts f [] = refl
two_parts f (t ∷ []) = sym (append-nil (f t ++ []))
two_parts f (t ∷ u ∷ us) = ap (λ (xs : List Fault). xs ++ (f u ++ [])) (sym (append-nil (f t)))

-- the faults of two parts and of their number, noted one after another
pub two_noted : (f : Form → List Fault) (ts : List Form) (first : Option Fault) (behind more : List Fault)
    → all_noted (all_noted (all_noted first (flat_map f (take 1 (drop 0 ts)))) (flat_map f (take 1 (drop 1 ts)))) (behind ++ more)
    ≡ all_noted first (flat_map f (take 2 ts) ++ behind ++ more)
two_noted f ts first behind more =
    ap (λ (n : Option Fault). all_noted n (behind ++ more))
    (sym (noted_append first (flat_map f (take 1 (drop 0 ts))) (flat_map f (take 1 (drop 1 ts)))) ∙ ap (all_noted first) (sym (two_parts f ts)))
    ∙ sym (noted_append first (flat_map f (take 2 ts)) (behind ++ more))
    ∙ ap (all_noted first) (sym (append_assoc (flat_map f (take 2 ts)) behind more))

pub argument_fits : (t : Form) → is_argument t ≡ true → (argument true t).faults ≡ []
argument_fits t h = by_word t.word h
  where
    by_tests : (w : List ℕ) (a b : Bool) → is_name w ≡ a → is_variable w ≡ b → (a || b) ≡ true → (argument_word true t.at w).faults ≡ []
    by_tests w true b e f g = rw e refl
    by_tests w false true e f g = rw (e, f) refl
    by_tests w false false e f g = cc

    by_word : (word : Option (List ℕ)) → option_map_or (λ w. is_name w || is_variable w) word false ≡ true → (option_map_or (argument_word true t.at) word (misfit Arg t.at)).faults ≡ []
    by_word None h = cc
    by_word (Some w) h = by_tests w (is_name w) (is_variable w) refl refl h

-- names and variables have no faults of their own
pub objects_noted : (ts : List Form) (first : Option Fault) → of_objects ts ≡ true
    → all_noted (all_noted first (flat_map (λ t. (argument true t).faults) (take 1 (drop 0 ts)))) (flat_map (λ t. (argument true t).faults) (take 1 (drop 1 ts))) ≡ first
objects_noted [] first h = refl
objects_noted (t ∷ []) first h = cc
objects_noted (t ∷ u ∷ us) first h =
    let parts = both_true (is_argument t) (is_argument u) h in
    ap₂ (λ (xs ys : List Fault). all_noted (all_noted first (xs ++ [])) (ys ++ [])) (argument_fits t parts.0) (argument_fits u parts.1)
  where
    both_true : (a b : Bool) → a && b ≡ true → (a ≡ true) × (b ≡ true)
    both_true true b h = (refl, h)
    both_true false b h = cc

-- ---- so many parts

pub counted : {A : Type 0} (text : List ℕ) (n : ℕ) (ts : List Tree) (found : Found A) → length ts ≡ n → where_count n (forms_of text ts) found ≡ found
counted text n ts found e =
    let same : length (forms_of text ts) ≡ n = same_length text ts ∙ e in
    let test : (length (forms_of text ts) == n) ≡ true = grind (arith, nat_tests) in
    ap (λ (b : Bool). if b then found else Misfit) test

pub not_counted : {A : Type 0} (text : List ℕ) (n : ℕ) (ts : List Tree) (found : Found A) → (length ts ≡ n → ⊥) → where_count n (forms_of text ts) found ≡ Misfit
not_counted text n ts found other =
    let same : length (forms_of text ts) ≡ length ts = same_length text ts in
    let differs : length (forms_of text ts) ≡ n → ⊥ = λ e. other (sym same ∙ e) in
    let test : (length (forms_of text ts) == n) ≡ false = grind (arith, nat_tests) in
    ap (λ (b : Bool). if b then found else Misfit) test
