-- Lists of faults that are empty, and what holds of each member of a list.
use Rattle.std.proofs.Common.{◌≡◌, Bool, true, false, List, [], ◌∷◌, ◌++◌, map, refl}
use Rattle.std.specs.Prelude.{◌↔◌, flat_map}
use Rattle.pddl_types.specs.declared.faults.Fault.{Fault}
use Rattle.pddl_types.specs.DeclarationFaults.{unless}
use Rattle.pddl_types.specs.WellFormed.{Each}

pub same : {A : Type 0} → A ↔ A
same = (λ x. x, λ x. x)

pub chain : {A B C : Type 0} → A ↔ B → B ↔ C → A ↔ C
chain p q = (λ a. q.0 (p.0 a), λ c. p.1 (q.1 c))

pub back : {A B : Type 0} → A ↔ B → B ↔ A
back p = (p.1, p.0)

pub both : {A B C D : Type 0} → A ↔ B → C ↔ D → (A × C) ↔ (B × D)
both p q = (λ h. (p.0 h.0, q.0 h.1), λ h. (p.1 h.0, q.1 h.1))

-- ---- empty lists

pub empty_append : {A : Type 0} (xs ys : List A) → (xs ++ ys ≡ []) ↔ ((xs ≡ []) × (ys ≡ []))
empty_append [] ys = (λ e. (refl, e), λ h. h.1)
empty_append (x ∷ xs) ys = (λ e. cc, λ h. let e = h.0 in cc)

pub empty_unless : (test : Bool) (f : Fault) → (unless test f ≡ []) ↔ (test ≡ true)
empty_unless true f = (λ e. refl, λ e. refl)
empty_unless false f = (λ e. cc, λ e. cc)

pub empty_flat : {A B : Type 0} (f : A → List B) (xs : List A) → (flat_map f xs ≡ []) ↔ Each (λ x. f x ≡ []) xs
empty_flat f [] = (λ e. tt, λ h. refl)
empty_flat f (x ∷ xs) = chain (empty_append (f x) (flat_map f xs)) (both same (empty_flat f xs))

-- ---- each member

pub each_append : {A : Type 0} (P : A → Type 0) (xs ys : List A) → Each P (xs ++ ys) ↔ (Each P xs × Each P ys)
each_append P [] ys = (λ h. (tt, h), λ h. h.1)
each_append P (x ∷ xs) ys =
    let rest = each_append P xs ys in
    (λ h. ((h.0, (rest.0 h.1).0), (rest.0 h.1).1), λ h. (h.0.0, rest.1 (h.0.1, h.1)))

pub each_map : {A B : Type 0} (P : B → Type 0) (f : A → B) (xs : List A) → Each P (map f xs) ↔ Each (λ x. P (f x)) xs
each_map P f [] = same
each_map P f (x ∷ xs) = both same (each_map P f xs)

pub each_flat : {A B : Type 0} (P : B → Type 0) (f : A → List B) (xs : List A) → Each P (flat_map f xs) ↔ Each (λ x. Each P (f x)) xs
each_flat P f [] = same
each_flat P f (x ∷ xs) = chain (each_append P (f x) (flat_map f xs)) (both same (each_flat P f xs))

pub each_same : {A : Type 0} (P Q : A → Type 0) → ((x : A) → P x ↔ Q x) → (xs : List A) → Each P xs ↔ Each Q xs
each_same P Q h [] = same
each_same P Q h (x ∷ xs) = both (h x) (each_same P Q h xs)

pub each_of_all : {A : Type 0} (P : A → Type 0) → ((x : A) → P x) → (xs : List A) → Each P xs
each_of_all P h [] = tt
each_of_all P h (x ∷ xs) = (h x, each_of_all P h xs)

pub each_from : {A : Type 0} (P Q : A → Type 0) → ((x : A) → P x → Q x) → (xs : List A) → Each P xs → Each Q xs
each_from P Q h [] e = tt
each_from P Q h (x ∷ xs) e = (h x e.0, each_from P Q h xs e.1)

pub each_under : {A : Type 0} (U P Q : A → Type 0) → ((x : A) → U x → P x ↔ Q x) → (xs : List A) → Each U xs → Each P xs ↔ Each Q xs
each_under U P Q h [] e = same
each_under U P Q h (x ∷ xs) e = both (h x e.0) (each_under U P Q h xs e.1)

pub each_both : {A : Type 0} (P Q : A → Type 0) (xs : List A) → Each (λ x. P x × Q x) xs ↔ (Each P xs × Each Q xs)
each_both P Q [] = (λ h. (tt, tt), λ h. tt)
each_both P Q (x ∷ xs) =
    let rest = each_both P Q xs in
    (λ h. ((h.0.0, (rest.0 h.1).0), (h.0.1, (rest.0 h.1).1)), λ h. ((h.0.0, h.1.0), rest.1 (h.0.1, h.1.1)))

pub empty_three : {A : Type 0} (xs ys zs : List A) → (xs ++ ys ++ zs ≡ []) ↔ ((xs ≡ []) × (ys ≡ []) × (zs ≡ []))
empty_three xs ys zs =
    chain (empty_append (xs ++ ys) zs) (chain (both (empty_append xs ys) same) (λ h. (h.0.0, h.0.1, h.1), λ h. ((h.0, h.1), h.2)))

pub empty_five : {A : Type 0} (vs ws xs ys zs : List A) → (vs ++ ws ++ xs ++ ys ++ zs ≡ []) ↔ ((vs ≡ []) × (ws ≡ []) × (xs ≡ []) × (ys ≡ []) × (zs ≡ []))
empty_five vs ws xs ys zs =
    let outer = empty_three (vs ++ ws ++ xs) ys zs in
    let inner = empty_three vs ws xs in (
      λ h.
          let o = outer.0 h in
          let i = inner.0 o.0 in
          (i.0, i.1, i.2, o.1, o.2),
      λ h. outer.1 (inner.1 (h.0, h.1, h.2), h.3, h.4),
    )

pub each_four : {A : Type 0} (P Q R S : A → Type 0) (xs : List A) → Each (λ x. P x × Q x × R x × S x) xs ↔ (Each P xs × Each Q xs × Each R xs × Each S xs)
each_four P Q R S [] = (λ h. (tt, tt, tt, tt), λ h. tt)
each_four P Q R S (x ∷ xs) =
    let rest = each_four P Q R S xs in (
      λ h.
          let r = rest.0 h.1 in
          ((h.0.0, r.0), (h.0.1, r.1), (h.0.2, r.2), (h.0.3, r.3)),
      λ h. ((h.0.0, h.1.0, h.2.0, h.3.0), rest.1 (h.0.1, h.1.1, h.2.1, h.3.1)),
    )

pub each_three_append : {A : Type 0} (P : A → Type 0) (xs ys zs : List A) → Each P (xs ++ ys ++ zs) ↔ (Each P xs × Each P ys × Each P zs)
each_three_append P xs ys zs =
    let outer = each_append P (xs ++ ys) zs in
    let inner = each_append P xs ys in (
      λ h.
          let o = outer.0 h in
          let i = inner.0 o.0 in
          (i.0, i.1, o.1),
      λ h. outer.1 (inner.1 (h.0, h.1), h.2),
    )

pub each_four_append : {A : Type 0} (P : A → Type 0) (ws xs ys zs : List A) → Each P (ws ++ xs ++ ys ++ zs) ↔ (Each P ws × Each P xs × Each P ys × Each P zs)
each_four_append P ws xs ys zs =
    let outer = each_append P (ws ++ xs ++ ys) zs in
    let inner = each_three_append P ws xs ys in (
      λ h.
          let o = outer.0 h in
          let i = inner.0 o.0 in
          (i.0, i.1, i.2, o.1),
      λ h. outer.1 (inner.1 (h.0, h.1, h.2), h.3),
    )
