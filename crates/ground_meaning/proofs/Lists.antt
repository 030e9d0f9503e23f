-- What stands in joined lists, and what holds of each of their members.
use Rattle.std.proofs.Common.{◌≡◌, ◌<◌, ◌++◌, ◌⊎◌, ℕ, suc, Bool, true, false, List, [], ◌∷◌, inl, inr, length, map, All, slice_index_or, refl, sym, ap, subst, ◌∙◌, arith, cond}
use Rattle.std.specs.Prelude.{filter, flat_map}
use Rattle.std.proofs.lemmas.List.Elements.{All-cons, All-head, All-nil, All-tail}
use Rattle.pddl_types.specs.WellFormed.{Each, Stands}

pub each_left : {A : Type 0} (P : A → Type 0) (xs ys : List A) → Each P (xs ++ ys) → Each P xs
each_left P [] ys h = tt
each_left P (x ∷ xs) ys h = (h.0, each_left P xs ys h.1)

pub each_right : {A : Type 0} (P : A → Type 0) (xs ys : List A) → Each P (xs ++ ys) → Each P ys
each_right P [] ys h = h
each_right P (x ∷ xs) ys h = each_right P xs ys h.1

pub each_joined : {A : Type 0} (P : A → Type 0) (xs ys : List A) → Each P xs → Each P ys → Each P (xs ++ ys)
each_joined P [] ys h k = k
each_joined P (x ∷ xs) ys h k = (h.0, each_joined P xs ys h.1 k)

pub each_stands : {A : Type 0} (P : A → Type 0) (xs : List A) (x : A) → Each P xs → Stands x xs → P x
each_stands P [] x h s = elim s [ ]
each_stands P (y ∷ ys) x h (inl e) = subst P (sym e) h.0
each_stands P (y ∷ ys) x h (inr s) = each_stands P ys x h.1 s

pub stands_left : {A : Type 0} (x : A) (xs ys : List A) → Stands x xs → Stands x (xs ++ ys)
stands_left x [] ys s = elim s [ ]
stands_left x (y ∷ xs) ys (inl e) = inl e
stands_left x (y ∷ xs) ys (inr s) = inr (stands_left x xs ys s)

pub stands_right : {A : Type 0} (x : A) (xs ys : List A) → Stands x ys → Stands x (xs ++ ys)
stands_right x [] ys s = s
stands_right x (y ∷ xs) ys s = inr (stands_right x xs ys s)

pub stands_split : {A : Type 0} (x : A) (xs ys : List A) → Stands x (xs ++ ys) → Stands x xs ⊎ Stands x ys
stands_split x [] ys s = inr s
stands_split x (y ∷ xs) ys (inl e) = inl (inl e)
stands_split x (y ∷ xs) ys (inr s) = elim (stands_split x xs ys s) [ inl here ↦ inl (inr here) | inr there ↦ inr there ]

pub each_flat : {A B : Type 0} (P : B → Type 0) (f : A → List B) (xs : List A) → Each P (flat_map f xs) → Each (λ x. Each P (f x)) xs
each_flat P f [] h = tt
each_flat P f (x ∷ xs) h = (each_left P (f x) (flat_map f xs) h, each_flat P f xs (each_right P (f x) (flat_map f xs) h))

pub each_map : {A B : Type 0} (P : B → Type 0) (f : A → B) (xs : List A) → Each P (map f xs) → Each (λ x. P (f x)) xs
each_map P f [] h = tt
each_map P f (x ∷ xs) h = (h.0, each_map P f xs h.1)

pub each_both : {A : Type 0} (P Q : A → Type 0) (xs : List A) → Each P xs → Each Q xs → Each (λ x. P x × Q x) xs
each_both P Q [] h k = tt
each_both P Q (x ∷ xs) h k = ((h.0, k.0), each_both P Q xs h.1 k.1)

pub each_more : {A : Type 0} (P Q : A → Type 0) (xs : List A) → ((x : A) → P x → Q x) → Each P xs → Each Q xs
each_more P Q [] more h = tt
each_more P Q (x ∷ xs) more h = (more x h.0, each_more P Q xs more h.1)

pub each_where : {A : Type 0} (P : A → Type 0) (xs : List A) → ((x : A) → Stands x xs → P x) → Each P xs
each_where P [] h = tt
each_where P (x ∷ xs) h = (h x (inl refl), each_where P xs (λ y s. h y (inr s)))

pub each_mapped : {A B : Type 0} (P : B → Type 0) (f : A → B) (xs : List A) → Each (λ x. P (f x)) xs → Each P (map f xs)
each_mapped P f [] h = tt
each_mapped P f (x ∷ xs) h = (h.0, each_mapped P f xs h.1)

pub each_filtered : {A : Type 0} (P : A → Type 0) (test : A → Bool) (xs : List A) → Each P xs → Each P (filter test xs)
each_filtered P test [] h = tt
each_filtered P test (x ∷ xs) h = of_test (test x) (each_filtered P test xs h.1)
  where
    of_test : (t : Bool) → Each P (filter test xs) → Each P (cond t (x ∷ filter test xs) (filter test xs))
    of_test true rest = (h.0, rest)
    of_test false rest = rest

pub all_of_each : {A : Type 0} (P : A → Type 0) (xs : List A) → Each P xs → All P xs
all_of_each P [] h = All-nil P
all_of_each P (x ∷ xs) h = All-cons P x xs h.0 (all_of_each P xs h.1)

pub each_of_all : {A : Type 0} (P : A → Type 0) (xs : List A) → All P xs → Each P xs
each_of_all P [] h = tt
each_of_all P (x ∷ xs) h = (All-head P x xs h, each_of_all P xs (All-tail P x xs h))

-- ---- where something that stands in a made list comes from

pub stands_mapped : {A B : Type 0} (f : A → B) (xs : List A) (y : B) → Stands y (map f xs) → (x : A) × Stands x xs × (y ≡ f x)
stands_mapped f [] y s = elim s [ ]
stands_mapped f (x ∷ xs) y (inl e) = (x, inl refl, e)
stands_mapped f (x ∷ xs) y (inr s) = let rest = stands_mapped f xs y s in (rest.0, inr rest.1, rest.2)

pub stands_in_flat : {A B : Type 0} (f : A → List B) (xs : List A) (y : B) → Stands y (flat_map f xs) → (x : A) × Stands x xs × Stands y (f x)
stands_in_flat f [] y s = elim s [ ]
stands_in_flat f (x ∷ xs) y s =
    elim (stands_split y (f x) (flat_map f xs) s) [
      | inl here ↦ (x, inl refl, here)
      | inr there ↦ let rest = stands_in_flat f xs y there in (rest.0, inr rest.1, rest.2)
    ]

pub stands_filtered : {A : Type 0} (test : A → Bool) (xs : List A) (x : A) → Stands x (filter test xs) → Stands x xs × (test x ≡ true)
stands_filtered test [] x s = elim s [ ]
stands_filtered test (y ∷ ys) x s = of_test (test y) refl s (λ r. stands_filtered test ys x r)
  where
    of_test : (t : Bool) → test y ≡ t → Stands x (cond t (y ∷ filter test ys) (filter test ys)) → (Stands x (filter test ys) → Stands x ys × (test x ≡ true))
        → Stands x (y ∷ ys) × (test x ≡ true)
    of_test true is (inl e) more = (inl e, ap test e ∙ is)
    of_test true is (inr r) more = let rest = more r in (inr rest.0, rest.1)
    of_test false is r more = let rest = more r in (inr rest.0, rest.1)

-- and at which number
pub stands_number : {A : Type 0} (xs : List A) (x d : A) → Stands x xs → (n : ℕ) × (n < length xs) × (slice_index_or xs n d ≡ x)
stands_number [] x d s = elim s [ ]
stands_number (y ∷ ys) x d (inl e) = (0, omega arith, sym e)
stands_number (y ∷ ys) x d (inr s) = let rest = stands_number ys x d s in (suc rest.0, omega (arith, rest.1), rest.2)
