-- The first of the faults, noted one after another.
use Rattle.std.proofs.Common.{◌≡◌, ◌≤◌, ℕ, List, [], ◌∷◌, ◌++◌, Option, map, drop, length, refl, sym, ◌∙◌}
use Rattle.std.specs.Prelude.{Bool, true, false, Some, None, flat_map, fold, IfOk, Result, Ok, Err, if◌then◌else◌}
use Rattle.std.proofs.lemmas.List.{at_drop_all}
use Rattle.pddl_trees.specs.declared.faults.Fault.{Fault}
use Rattle.sexp_text.specs.declared.trees.Tree.{Tree}
use Rattle.pddl_trees.specs.Faults.{is_before, noted, all_noted}
use Rattle.pddl_trees.specs.Forms.{Form}
use Rattle.pddl_trees.specs.Trees.{form_of, forms_of}

-- the faults of two parts are noted one part after the other
pub noted_append : (first : Option Fault) (xs ys : List Fault) → all_noted first (xs ++ ys) ≡ all_noted (all_noted first xs) ys
noted_append first [] ys = refl
noted_append first (x ∷ xs) ys = noted_append (noted first x) xs ys

-- a walk over a list has come to its end
pub walked : {S X : Type 0} (step : S → X → S) (now all : S) (xs : List X) (i : ℕ) → length xs ≤ i → fold step now (drop i xs) ≡ all → now ≡ all
walked step now all xs i past same = sym (at_drop_all (fold step now) xs i past) ∙ same

-- the first fault so far with those of a further tree
abbrev pub with_faults_in : (Form → List Fault) → List ℕ → Option Fault → Tree → Option Fault
with_faults_in faults text first t = all_noted first (faults (form_of text t))

pub faults_walked : (faults : Form → List Fault) (text : List ℕ) (first : Option Fault) (ts : List Tree)
    → fold (with_faults_in faults text) first ts ≡ all_noted first (flat_map faults (forms_of text ts))
faults_walked faults text first [] = refl
faults_walked faults text first (t ∷ ts) =
    faults_walked faults text (all_noted first (faults (form_of text t))) ts
    ∙ sym (noted_append first (faults (form_of text t)) (flat_map faults (forms_of text ts)))

-- what is so far with what is taken of a further tree
abbrev pub with_taken : {S X : Type 0} → (S → X → S) → (Form → X) → List ℕ → S → Tree → S
with_taken step take_of text s t = step s (take_of (form_of text t))

pub taken_walked : {S X : Type 0} (step : S → X → S) (take_of : Form → X) (text : List ℕ) (s : S) (ts : List Tree)
    → fold (with_taken step take_of text) s ts ≡ fold step s (map take_of (forms_of text ts))
taken_walked step take_of text s [] = refl
taken_walked step take_of text s (t ∷ ts) = taken_walked step take_of text (step s (take_of (form_of text t))) ts

-- what two facts of a result give together
pub if_ok_both : {T E : Type 0} (r : Result T E) (P Q R : T → Type 0) → ((x : T) → P x → Q x → R x) → IfOk r P → IfOk r Q → IfOk r R
if_ok_both (Ok x) P Q R f p q = f x p q
if_ok_both (Err e) P Q R f p q = p

-- what is so far with all that is found in a further tree
abbrev pub with_found : {S X : Type 0} → (S → X → S) → (Form → List X) → List ℕ → S → Tree → S
with_found step found text s t = fold step s (found (form_of text t))

fold_append : {S X : Type 0} (step : S → X → S) (s : S) (xs ys : List X) → fold step s (xs ++ ys) ≡ fold step (fold step s xs) ys
fold_append step s [] ys = refl
fold_append step s (x ∷ xs) ys = fold_append step (step s x) xs ys

pub found_walked : {S X : Type 0} (step : S → X → S) (found : Form → List X) (text : List ℕ) (s : S) (ts : List Tree)
    → fold (with_found step found text) s ts ≡ fold step s (flat_map found (forms_of text ts))
found_walked step found text s [] = refl
found_walked step found text s (t ∷ ts) =
    found_walked step found text (fold step s (found (form_of text t))) ts
    ∙ sym (fold_append step s (found (form_of text t)) (flat_map found (forms_of text ts)))

-- where no fault was noted there was none
pub none_noted : (first : Option Fault) (faults : List Fault) → all_noted first faults ≡ None → (first ≡ None) × (faults ≡ [])
none_noted first [] e = (e, refl)
none_noted None (f ∷ fs) e = cc (none_noted (Some f) fs e).0
none_noted (Some g) (f ∷ fs) e = by_test (is_before f g) (none_noted (noted (Some g) f) fs e).0
  where
    by_test : (b : Bool) → (if b then Some f else Some g) ≡ None → (Some g ≡ None) × (f ∷ fs ≡ [])
    by_test true h = (cc, cc)
    by_test false h = (cc, cc)
