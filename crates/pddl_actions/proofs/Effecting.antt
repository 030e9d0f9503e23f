-- Effects by their kinds and parts.
use Rattle.std.proofs.Common.{◌≡◌, ℕ, suc, ◌≤◌, Bool, true, false, List, [], ◌∷◌, ◌++◌, Option, Some, None, get_or, drop, length, refl, sym, ap, ap₂, ◌∙◌, arith, append_assoc}
use Rattle.std.specs.Prelude.{bytes_eq, codes, nat_lt, not, option_map, ◌==◌, if◌then◌else◌}
use Rattle.std.specs.Option.{option_map_or}
use Rattle.std.proofs.lemmas.Bool.Decides.{nat_tests}
use Rattle.sexp_text.specs.declared.trees.Tree.{Tree}
use Rattle.pddl_terms.specs.declared.names.Atom.{Atom}
use Rattle.pddl_terms.specs.declared.expressions.Expr.{Expr}
use Rattle.pddl_terms.specs.declared.actions.Assign.{Assign}
use Rattle.pddl_terms.specs.declared.actions.Effect.TheVariants as effect
use Rattle.pddl_terms.specs.Heights.{expression_height}
use Rattle.pddl_trees.specs.declared.faults.Fault.{Fault}
use Rattle.pddl_expressions.specs.declared.found.Found.TheVariants.{TooHigh, Fine}
use Rattle.pddl_trees.specs.Faults.{all_noted}
use Rattle.pddl_actions.specs.declared.effects.Kind.{Kind}
use Rattle.pddl_actions.specs.declared.effects.Kind.TheVariants as kind
use Rattle.pddl_trees.specs.Words.{change_of}
use Rattle.pddl_trees.specs.Forms.{Effects, Form, Parsed, both, first_of}
use Rattle.pddl_trees.specs.Effects.{addition, all_effects, change, changed, deleted, deletion, effects_of, headed_effects}
use Rattle.pddl_trees.specs.Atoms.{atom_of}
use Rattle.pddl_trees.specs.Trees.{form_of, forms_of}
use Rattle.pddl_expressions.specs.Cut.{cut_expr}
use Rattle.pddl_actions.specs.internal.EffectSteps.{changed_by, kind_of, kind_said}
use Rattle.pddl_actions.specs.Kept.{fitting}
use Rattle.pddl_trees.proofs.Noted.{noted_append}
use Rattle.pddl_trees.proofs.Trees.{same_length}
use Rattle.pddl_expressions.proofs.Tails.{tail_of, tail_is}

-- a value where there are so many parts
abbrev pub if_count : {A : Type 0} → ℕ → List Form → Option A → Option A
if_count n ts v = if length ts == n then v else None

pub counted : {A : Type 0} (text : List ℕ) (n : ℕ) (ts : List Tree) (v : Option A) → length ts ≡ n → if_count n (forms_of text ts) v ≡ v
counted text n ts v e =
    let same : length (forms_of text ts) ≡ n = same_length text ts ∙ e in
    let test : (length (forms_of text ts) == n) ≡ true = grind (arith, nat_tests) in
    ap (λ (b : Bool). if b then v else None) test

pub not_counted : {A : Type 0} (text : List ℕ) (n : ℕ) (ts : List Tree) (v : Option A) → (length ts ≡ n → ⊥) → if_count n (forms_of text ts) v ≡ None
not_counted text n ts v other =
    let same : length (forms_of text ts) ≡ length ts = same_length text ts in
    let differs : length (forms_of text ts) ≡ n → ⊥ = λ e. other (sym same ∙ e) in
    let test : (length (forms_of text ts) == n) ≡ false = grind (arith, nat_tests) in
    ap (λ (b : Bool). if b then v else None) test

pub deleted_by_count : (ts : List Form) → fitting (deleted ts) ≡ if_count 1 ts (option_map effect.Del (first_of (λ t. t.atom.value) ts))
deleted_by_count [] = refl
deleted_by_count (t ∷ []) = by_value t.atom.value
  where
    by_value : (v : Option Atom) → fitting (option_map effect.Del v) ≡ option_map effect.Del v
    by_value None = refl
    by_value (Some a) = refl
deleted_by_count (t ∷ u ∷ us) =
    let several : (suc (suc (length us)) == 1) ≡ false = grind (arith, nat_tests) in
    ap (λ (b : Bool). if b then option_map effect.Del t.atom.value else None) (sym several)

changed_fits : (how : Assign) (a : Option Atom) (e : Option Expr) → fitting (both (effect.Num how) a e) ≡ changed_by how a (cut_expr e)
changed_fits how None e = refl
changed_fits how (Some a) None = refl
changed_fits how (Some a) (Some e) = by_test (nat_lt 400 (expression_height e))
  where
    by_test : (b : Bool) → (if not b then Some (effect.Num how a e) else None) ≡ changed_by how (Some a) (if b then TooHigh else Fine e (expression_height e))
    by_test true = refl
    by_test false = refl

pub changed_by_count : (how : Assign) (ts : List Form) → fitting (changed how ts)
    ≡ if_count 2 ts (changed_by how (first_of (λ t. t.atom.value) ts) (cut_expr (first_of (λ t. t.expr.value) (drop 1 ts))))
changed_by_count how [] = refl
changed_by_count how (t ∷ []) = refl
changed_by_count how (t ∷ u ∷ []) = changed_fits how t.atom.value u.expr.value
changed_by_count how (t ∷ u ∷ v ∷ vs) =
    let several : (suc (suc (suc (length vs))) == 2) ≡ false = grind (arith, nat_tests) in
    ap (λ (b : Bool). if b then changed_by how t.atom.value (cut_expr u.expr.value) else None) (sym several)

-- the faults of a fluent, of an expression and of the number of parts, noted one after another
pub change_noted : (first : Option Fault) (xs ys behind more : List Fault) → all_noted (all_noted (all_noted first xs) ys) (behind ++ more) ≡ all_noted first (xs ++ ys ++ behind ++ more)
change_noted first xs ys behind more =
    ap (λ (n : Option Fault). all_noted n (behind ++ more)) (sym (noted_append first xs ys))
    ∙ sym (noted_append first (xs ++ ys) (behind ++ more))
    ∙ ap (all_noted first) (sym (append_assoc (xs ++ ys) behind more))

-- ---- kinds

-- a list's effects go by the kind that its first word is
pub said_by_kind : (at : ℕ) (word : Option (List ℕ)) (ts : List Form) (a : Parsed Atom) → option_map_or (λ w. headed_effects at w ts a) word (addition at a) ≡ kind_said at (kind_of word) ts a
said_by_kind at None ts a = refl
said_by_kind at (Some w) ts a = by_tests (bytes_eq w (codes "and")) (bytes_eq w (codes "not")) (change_of w)
  where
    by_tests : (b1 b2 : Bool) (how : Option Assign)
        → (if b1 then all_effects ts else (if b2 then deletion at ts else option_map_or (λ h. change at h ts) how (addition at a)))
        ≡ kind_said at (if b1 then kind.All else (if b2 then kind.Deletion else option_map_or kind.Change how kind.Addition)) ts a
    by_tests true b2 how = refl
    by_tests false true how = refl
    by_tests false false None = refl
    by_tests false false (Some h) = refl

-- a list of trees as effects
abbrev pub list_effects : List ℕ → ℕ → List Tree → Effects
list_effects text at ts = effects_of at (forms_of text ts) (atom_of true at (forms_of text ts))

-- a list by the kind that its first tree is
pub listed_kind : (text : List ℕ) (at : ℕ) (ts : List Tree) (head : Tree) (k : Kind) → 1 ≤ length ts → head ≡ get_or ts 0 head
    → k ≡ kind_of (form_of text head).word
    → list_effects text at ts ≡ kind_said at k (forms_of text (tail_of ts)) (atom_of true at (forms_of text ts))
listed_kind text at [] head k some first e = absurd (omega arith)
listed_kind text at (t ∷ ts) head k some first e =
    let word : kind_of (form_of text t).word ≡ k = ap (λ (u : Tree). kind_of (form_of text u).word) (sym first) ∙ sym e in
    let a = atom_of true at (forms_of text (t ∷ ts)) in
    said_by_kind at (form_of text t).word (forms_of text ts) a
    ∙ ap₂ (λ (l : Kind) (us : List Tree). kind_said at l (forms_of text us) a) word (sym (tail_is t ts))
