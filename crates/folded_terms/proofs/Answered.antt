-- Faults of folds, one after another.
use Rattle.std.proofs.Common.{◌≡◌, List, ◌∷◌, Result, Ok, Err, refl, sym, ap, subst, ◌∙◌}
use Rattle.ground_meaning.specs.Results.{after, all_answers, mapped}
use Rattle.ground_meaning.specs.Expressions.{FoldFault}
use Rattle.folded_terms.specs.declared.faults.FoldError.{FoldError}
use Rattle.folded_terms.specs.declared.faults.FoldError.TheVariants as error
use Rattle.folded_terms.specs.Faults.{IsFoldFault}

pub fault_of : {A : Type 0} (r s : Result A FoldFault) (f : FoldError) → r ≡ s → IsFoldFault r f → IsFoldFault s f
fault_of r s f e h = subst (λ (x : Result _ FoldFault). IsFoldFault x f) e h

pub fault_after : {A B : Type 0} (next : A → Result B FoldFault) (r : Result A FoldFault) (f : FoldError) → IsFoldFault r f → IsFoldFault (after next r) f
fault_after next r (error.Divide place) h = ap (after next) h
fault_after next r error.OutOfRange h = ap (after next) h
fault_after next r error.NoMemory h = tt

pub fault_mapped : {A B : Type 0} (make : A → B) (r : Result A FoldFault) (f : FoldError) → IsFoldFault r f → IsFoldFault (mapped make r) f
fault_mapped make r (error.Divide place) h = ap (mapped make) h
fault_mapped make r error.OutOfRange h = ap (mapped make) h
fault_mapped make r error.NoMemory h = tt

pub mapped_twice : {A B C E : Type 0} (f : B → C) (g : A → B) (r : Result A E) → mapped f (mapped g r) ≡ mapped (λ a. f (g a)) r
mapped_twice f g (Ok a) = refl
mapped_twice f g (Err e) = refl

pub mapped_same : {A B E : Type 0} (f g : A → B) → ((a : A) → f a ≡ g a) → (r : Result A E) → mapped f r ≡ mapped g r
mapped_same f g h (Ok a) = ap Ok (h a)
mapped_same f g h (Err e) = refl

-- a further answer, where it is one
pub next_answer : {A B E : Type 0} (f : List A → B) (r : Result A E) (a : A) (rs : List (Result A E)) → r ≡ Ok a
    → mapped f (all_answers (r ∷ rs)) ≡ mapped (λ found. f (a ∷ found)) (all_answers rs)
next_answer {A} {B} {E} f r a rs e = ap (λ (x : Result A E). mapped f (all_answers (x ∷ rs))) e ∙ mapped_twice f (λ found. a ∷ found) (all_answers rs)

-- or else its fault is that of the whole
pub next_fault : {A B : Type 0} (make : List A → B) (r : Result A FoldFault) (rs : List (Result A FoldFault)) (f : FoldError) → IsFoldFault r f → IsFoldFault (mapped make (all_answers (r ∷ rs))) f
next_fault make r rs f h = fault_mapped make (all_answers (r ∷ rs)) f (fault_after (λ a. mapped (λ found. a ∷ found) (all_answers rs)) r f h)

-- ---- two answers

pub both_given : {A B C E : Type 0} (next : A → B → Result C E) (r : Result A E) (s : Result B E) (a : A) (b : B) → r ≡ Ok a → s ≡ Ok b → after (λ x. after (λ y. next x y) s) r ≡ next a b
both_given {A} {B} {C} {E} next r s a b e f = ap (after (λ x. after (λ y. next x y) s)) e ∙ ap (after (λ y. next a y)) f

pub second_fault : {A B C : Type 0} (next : A → B → Result C FoldFault) (r : Result A FoldFault) (s : Result B FoldFault) (a : A) (f : FoldError) → r ≡ Ok a → IsFoldFault s f
    → IsFoldFault (after (λ x. after (λ y. next x y) s) r) f
second_fault next r s a f e h = fault_of (after (λ y. next a y) s) (after (λ x. after (λ y. next x y) s) r) f (ap (after (λ x. after (λ y. next x y) s)) (sym e)) (fault_after (λ y. next a y) s f h)

pub both_mapped : {A B C E : Type 0} (make : A → B → C) (r : Result A E) (s : Result B E) (a : A) (b : B) → r ≡ Ok a → s ≡ Ok b → after (λ x. mapped (λ y. make x y) s) r ≡ Ok (make a b)
both_mapped make r s a b e f = ap (after (λ x. mapped (λ y. make x y) s)) e ∙ ap (mapped (λ y. make a y)) f

pub second_fault_mapped : {A B C : Type 0} (make : A → B → C) (r : Result A FoldFault) (s : Result B FoldFault) (a : A) (f : FoldError) → r ≡ Ok a → IsFoldFault s f
    → IsFoldFault (after (λ x. mapped (λ y. make x y) s) r) f
second_fault_mapped make r s a f e h = fault_of (mapped (λ y. make a y) s) (after (λ x. mapped (λ y. make x y) s) r) f (ap (after (λ x. mapped (λ y. make x y) s)) (sym e)) (fault_mapped (λ y. make a y) s f h)
