-- Answers that may be faults, one after another.
use Rattle.std.proofs.Common.{◌≡◌, List, [], ◌∷◌, Result, Ok, Err, map, refl, sym, ap, ◌∙◌}
use Rattle.ground_meaning.specs.Results.{after, all_answers, mapped}
use Rattle.ground_meaning.specs.Expressions.{FoldFault}
use Rattle.term_verdicts.specs.Verdicts.{fault_alone}

module _ {A B C E : Type 0} where
  pub mapped_twice : (f : B → C) (g : A → B) (r : Result A E) → mapped f (mapped g r) ≡ mapped (λ a. f (g a)) r
  mapped_twice f g (Ok a) = refl
  mapped_twice f g (Err e) = refl

  pub mapped_after : (f : B → C) (next : A → Result B E) (r : Result A E) → mapped f (after next r) ≡ after (λ a. mapped f (next a)) r
  mapped_after f next (Ok a) = refl
  mapped_after f next (Err e) = refl

  pub after_mapped : (next : B → Result C E) (g : A → B) (r : Result A E) → after next (mapped g r) ≡ after (λ a. next (g a)) r
  after_mapped next g (Ok a) = refl
  after_mapped next g (Err e) = refl

pub mapped_same : {A B E : Type 0} (f g : A → B) → ((a : A) → f a ≡ g a) → (r : Result A E) → mapped f r ≡ mapped g r
mapped_same f g h (Ok a) = ap Ok (h a)
mapped_same f g h (Err e) = refl

pub after_same : {A B E : Type 0} (f g : A → Result B E) → ((a : A) → f a ≡ g a) → (r : Result A E) → after f r ≡ after g r
after_same f g h (Ok a) = h a
after_same f g h (Err e) = refl

pub all_mapped : {A B E : Type 0} (f : A → B) (rs : List (Result A E)) → mapped (map f) (all_answers rs) ≡ all_answers (map (mapped f) rs)
all_mapped f [] = refl
all_mapped {A} {B} f (Ok a ∷ rs) =
    mapped_twice (map f) (λ (found : List A). a ∷ found) (all_answers rs)
    ∙ sym (mapped_twice (λ (found : List B). f a ∷ found) (map f) (all_answers rs))
    ∙ ap (mapped (λ (found : List B). f a ∷ found)) (all_mapped f rs)
all_mapped f (Err e ∷ rs) = refl

-- ---- faults

pub mapped_fault : {A B : Type 0} (make : A → B) (r : Result A FoldFault) (f : FoldFault) → mapped make r ≡ Err f → r ≡ Err f
mapped_fault make (Ok a) f h = cc
mapped_fault make (Err e) f h = let same : e ≡ f = cc in ap Err same

pub alone_after : {A B C : Type 0} (next : A → Result B FoldFault) (s : Result C FoldFault) → ((a : A) → fault_alone (next a) ≡ fault_alone s) → (r : Result A FoldFault)
    → fault_alone (after next r) ≡ after (λ a. fault_alone s) r
alone_after next s h (Ok a) = h a
alone_after next s h (Err e) = refl

pub alone_mapped : {A B : Type 0} (make : A → B) (r : Result A FoldFault) → fault_alone (mapped make r) ≡ fault_alone r
alone_mapped make (Ok a) = refl
alone_mapped make (Err e) = refl

pub alone_all : {A : Type 0} (r : Result A FoldFault) (rs : List (Result A FoldFault)) → fault_alone (all_answers (r ∷ rs)) ≡ after (λ u. fault_alone (all_answers rs)) (fault_alone r)
alone_all {A} (Ok a) rs = alone_mapped (λ (found : List A). a ∷ found) (all_answers rs)
alone_all (Err e) rs = refl
