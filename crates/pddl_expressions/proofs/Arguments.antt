-- Arguments that are gathered one after another.
use Rattle.std.proofs.Common.{◌≡◌, ℕ, Bool, List, [], ◌∷◌, ◌++◌, Option, Some, None, map, refl, sym, ap, ◌∙◌, append_assoc}
use Rattle.std.specs.Prelude.{flat_map, fold, option_map}
use Rattle.std.proofs.lemmas.List.{append-nil}
use Rattle.sexp_text.specs.declared.trees.Tree.{Tree}
use Rattle.pddl_terms.specs.declared.names.Arg.{Arg}
use Rattle.pddl_trees.specs.declared.faults.Fault.{Fault}
use Rattle.pddl_trees.specs.Faults.{all_noted}
use Rattle.pddl_trees.specs.Forms.{Parsed, all_of}
use Rattle.pddl_trees.specs.Atoms.{argument}
use Rattle.pddl_trees.specs.Trees.{form_of, forms_of}
use Rattle.pddl_expressions.specs.internal.Gathered.{appended}
use Rattle.pddl_trees.proofs.Noted.{noted_append}

none_stays : {A : Type 0} → (xs : List (Option A)) → fold appended None xs ≡ None
none_stays [] = refl
none_stays (x ∷ xs) = none_stays xs

appended_after : {A : Type 0} → (front : List A) (xs : List (Option A)) → fold appended (Some front) xs ≡ option_map (λ ys. front ++ ys) (all_of xs)
appended_after front [] = ap Some (sym (append-nil front))
appended_after front (None ∷ xs) = none_stays xs
appended_after {A} front (Some x ∷ xs) = appended_after (front ++ x ∷ []) xs ∙ one_more (all_of xs)
  where
    one_more : (rest : Option (List A)) → option_map (λ ys. (front ++ x ∷ []) ++ ys) rest ≡ option_map (λ ys. front ++ ys) (option_map (λ ys. x ∷ ys) rest)
    one_more None = refl
    one_more (Some ys) = ap Some (append_assoc front (x ∷ []) ys)

-- values that are gathered from nothing are all of them
pub gathered_all : {A : Type 0} → (xs : List (Option A)) → fold appended (Some []) xs ≡ all_of xs
gathered_all {A} xs = appended_after [] xs ∙ same (all_of xs)
  where
    same : (rest : Option (List A)) → option_map (λ ys. [] ++ ys) rest ≡ rest
    same None = refl
    same (Some ys) = refl

-- the arguments so far with that of a further tree
abbrev pub with_argument_of : Bool → List ℕ → Option (List Arg) → Tree → Option (List Arg)
with_argument_of variables text args t = appended args (argument variables (form_of text t)).value

-- the first fault so far with those of a further argument
abbrev pub with_faults_of : Bool → List ℕ → Option Fault → Tree → Option Fault
with_faults_of variables text first t = all_noted first (argument variables (form_of text t)).faults

fold_mapped : {S X Y : Type 0} (f : S → Y → S) (g : X → Y) → (s : S) (xs : List X) → fold (λ z x. f z (g x)) s xs ≡ fold f s (map g xs)
fold_mapped f g s [] = refl
fold_mapped f g s (x ∷ xs) = fold_mapped f g (f s (g x)) xs

pub arguments_gathered : (variables : Bool) (text : List ℕ) (ts : List Tree)
    → fold (with_argument_of variables text) (Some []) ts ≡ all_of (map (λ (a : Parsed Arg). a.value) (map (argument variables) (forms_of text ts)))
arguments_gathered variables text ts =
    fold_mapped appended (λ (t : Tree). (argument variables (form_of text t)).value) (Some []) ts
    ∙ gathered_all (map (λ (t : Tree). (argument variables (form_of text t)).value) ts)
    ∙ ap all_of (values ts)
  where
    values : (us : List Tree) → map (λ (t : Tree). (argument variables (form_of text t)).value) us ≡ map (λ (a : Parsed Arg). a.value) (map (argument variables) (forms_of text us))
    values [] = refl
    values (u ∷ us) = ap (λ (vs : List (Option Arg)). (argument variables (form_of text u)).value ∷ vs) (values us)

pub argument_faults_noted : (variables : Bool) (text : List ℕ) (first : Option Fault) (ts : List Tree)
    → fold (with_faults_of variables text) first ts ≡ all_noted first (flat_map (λ (a : Parsed Arg). a.faults) (map (argument variables) (forms_of text ts)))
argument_faults_noted variables text first [] = refl
argument_faults_noted variables text first (t ∷ ts) =
    argument_faults_noted variables text (all_noted first (argument variables (form_of text t)).faults) ts
    ∙ sym (noted_append first (argument variables (form_of text t)).faults (flat_map (λ (a : Parsed Arg). a.faults) (map (argument variables) (forms_of text ts))))
