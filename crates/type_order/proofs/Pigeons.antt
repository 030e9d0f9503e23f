-- A list that is longer than the list in which all its members stand has a member twice.
use Rattle.std.proofs.Common.{◌≡◌, ◌<◌, ◌⊎◌, inl, inr, ℕ, suc, Bool, true, false, List, [], ◌∷◌, ◌++◌, length, arith, refl, sym, ap, ◌∙◌}
use Rattle.std.specs.Prelude.{bytes_eq}
use Rattle.std.proofs.lemmas.Slice.Eq.{bytes_eq-Decides}

-- a text stands in a list
abbrev pub In : List ℕ → List (List ℕ) → Type 0
In x [] = ⊥
In x (y ∷ ys) = (x ≡ y) ⊎ In x ys

abbrev pub AllIn : List (List ℕ) → List (List ℕ) → Type 0
AllIn [] ys = Unit {0}
AllIn (x ∷ xs) ys = In x ys × AllIn xs ys

pub record Repeats (xs : List (List ℕ)) : Type 0 where
  pub front : List (List ℕ)
  pub twice : List ℕ
  pub between : List (List ℕ)
  pub rest : List (List ℕ)
  pub split : xs ≡ front ++ twice ∷ (between ++ twice ∷ rest)

same_or_not : (x y : List ℕ) → (x ≡ y) ⊎ (x ≡ y → ⊥)
same_or_not x y = cases (bytes_eq x y) refl
  where
    cases : (test : Bool) → bytes_eq x y ≡ test → (x ≡ y) ⊎ (x ≡ y → ⊥)
    cases true e = inl ((bytes_eq-Decides x y).0 e)
    cases false e = inr (λ same. let yes = (bytes_eq-Decides x y).1 same in cc)

in_or_not : (x : List ℕ) (ys : List (List ℕ)) → In x ys ⊎ (In x ys → ⊥)
in_or_not x [] = inr (λ h. h)
in_or_not x (y ∷ ys) = cases (same_or_not x y) (in_or_not x ys)
  where
    cases : (x ≡ y) ⊎ (x ≡ y → ⊥) → In x ys ⊎ (In x ys → ⊥) → In x (y ∷ ys) ⊎ (In x (y ∷ ys) → ⊥)
    cases (inl e) rest = inl (inl e)
    cases (inr n) (inl h) = inl (inr h)
    cases (inr n) (inr m) = inr (λ h. elim h [ inl e ↦ n e | inr i ↦ m i ])

record Removed (x : List ℕ) (ys : List (List ℕ)) : Type 0 where
  others : List (List ℕ)
  shorter : length ys ≡ suc (length others)
  kept : (z : List ℕ) → In z ys → (z ≡ x) ⊎ In z others

removed : (x : List ℕ) (ys : List (List ℕ)) → In x ys → Removed x ys
removed x [] h = absurd h
removed x (y ∷ ys) (inl e) = record { others = ys; shorter = refl; kept = λ z h. elim h [ inl f ↦ inl (f ∙ sym e) | inr i ↦ inr i ] }
removed x (y ∷ ys) (inr h) =
    let r = removed x ys h in
    record { others = y ∷ r.others; shorter = ap suc r.shorter; kept = λ z i. elim i [ inl f ↦ inr (inl f) | inr j ↦ further r.others z (r.kept z j) ] }
  where
    further : (others : List (List ℕ)) (z : List ℕ) → (z ≡ x) ⊎ In z others → (z ≡ x) ⊎ In z (y ∷ others)
    further others z (inl e) = inl e
    further others z (inr k) = inr (inr k)

record Stands (x : List ℕ) (ys : List (List ℕ)) : Type 0 where
  front : List (List ℕ)
  rest : List (List ℕ)
  split : ys ≡ front ++ x ∷ rest

stands : (x : List ℕ) (ys : List (List ℕ)) → In x ys → Stands x ys
stands x [] h = absurd h
stands x (y ∷ ys) (inl e) = record { front = []; rest = ys; split = ap (λ (z : List ℕ). z ∷ ys) (sym e) }
stands x (y ∷ ys) (inr h) =
    let s = stands x ys h in
    record { front = y ∷ s.front; rest = s.rest; split = ap (λ (zs : List (List ℕ)). y ∷ zs) s.split }

all_others : (x : List ℕ) (ys others xs : List (List ℕ)) → ((z : List ℕ) → In z ys → (z ≡ x) ⊎ In z others) → (In x xs → ⊥) → AllIn xs ys → AllIn xs others
all_others x ys others [] kept not_in h = tt
all_others x ys others (z ∷ zs) kept not_in h = (now (kept z h.0), all_others x ys others zs kept (λ i. not_in (inr i)) h.1)
  where
    now : (z ≡ x) ⊎ In z others → In z others
    now (inl e) = absurd (not_in (inl (sym e)))
    now (inr i) = i

pub repeated_in : (xs ys : List (List ℕ)) → AllIn xs ys → length ys < length xs → Repeats xs
repeated_in [] ys h longer = absurd (omega arith)
repeated_in (x ∷ xs) ys h longer = cases (in_or_not x xs) (λ zs others more. repeated_in xs zs others more)
  where
    behind : Repeats xs → Repeats (x ∷ xs)
    behind r = record { front = x ∷ r.front; twice = r.twice; between = r.between; rest = r.rest; split = ap (λ (zs : List (List ℕ)). x ∷ zs) r.split }

    cases : In x xs ⊎ (In x xs → ⊥) → ((zs : List (List ℕ)) → AllIn xs zs → length zs < length xs → Repeats xs) → Repeats (x ∷ xs)
    cases (inl i) rec =
        let s = stands x xs i in
        record { front = []; twice = x; between = s.front; rest = s.rest; split = ap (λ (zs : List (List ℕ)). x ∷ zs) s.split }
    cases (inr n) rec =
        let r = removed x ys h.0 in
        let shorter = r.shorter in
        behind (rec r.others (all_others x ys r.others xs r.kept n h.1) (omega arith))
