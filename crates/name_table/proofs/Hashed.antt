-- Names that are found by hash.
use Rattle.std.proofs.Common.{◌≡◌, ◌||◌, ◌&&◌, ℕ, Bool, true, false, cond, List, [], ◌∷◌, ◌++◌, Option, Some, None, map, refl, sym, ap, ◌∙◌, is_some, if◌then◌else◌}
use Rattle.std.specs.Prelude.{bytes_eq}
use Rattle.std.specs.List.{list_any}
use Rattle.std.specs.Cmp.Lexicographic.{pointwise}
use Rattle.std.specs.Map.{lookup}
use Rattle.indexmap.specs.IndexMap.{insert_entry}
use Rattle.indexmap.specs.IndexSet.{insert_key}
use Rattle.name_table.specs.Tables.{table_number, with_number}

-- the entries of a map as names with numbers
abbrev pub as_texts : {K : Type 0} → (K → List ℕ) → List (K × ℕ) → List (List ℕ × ℕ)
as_texts items es = map (λ e. (items e.0, e.1)) es

pub looked_up : {K : Type 0} (items : K → List ℕ) (text : List ℕ) (es : List (K × ℕ)) → lookup (λ k. bytes_eq text (items k)) es ≡ table_number text (as_texts items es)
looked_up items text [] = refl
looked_up items text (e ∷ es) = ap (cond (bytes_eq text (items e.0)) (Some e.1)) (looked_up items text es)

none_of : (test : Bool) (number : ℕ) (rest : Option ℕ) → (if test then Some number else rest) ≡ None → (test ≡ false) × (rest ≡ None)
none_of true number rest h = cc
none_of false number rest h = (refl, h)

inserted_last : {K : Type 0} (items : K → List ℕ) (key : K) (number : ℕ) (es : List (K × ℕ)) → table_number (items key) (as_texts items es) ≡ None
    → as_texts items (insert_entry (λ x y. bytes_eq (items x) (items y)) es key number) ≡ as_texts items es ++ (items key, number) ∷ []
inserted_last items key number [] none = refl
inserted_last items key number (e ∷ es) none =
    let parts = none_of (bytes_eq (items key) (items e.0)) e.1 (table_number (items key) (as_texts items es)) none in
    ap (λ (t : Bool). as_texts items (if t then (e.0, number) ∷ es else e ∷ insert_entry (λ x y. bytes_eq (items x) (items y)) es key number)) parts.0
    ∙ ap (λ (rest : List (List ℕ × ℕ)). (items e.0, e.1) ∷ rest) (inserted_last items key number es parts.1)

-- a name that has no number yet gets this one
pub numbered_last : {K : Type 0} (items : K → List ℕ) (key : K) (text : List ℕ) (number : ℕ) (es : List (K × ℕ)) → items key ≡ text → table_number text (as_texts items es) ≡ None
    → as_texts items (insert_entry (λ x y. bytes_eq (items x) (items y)) es key number) ≡ with_number (as_texts items es) text number
numbered_last items key text number es same none =
    inserted_last items key number es (ap (λ (t : List ℕ). table_number t (as_texts items es)) same ∙ none)
    ∙ ap (λ (t : List ℕ). as_texts items es ++ (t, number) ∷ []) same
    ∙ sym (ap (λ (n : Option ℕ). if is_some n then as_texts items es else as_texts items es ++ (text, number) ∷ []) none)

-- ---- sets

module _ {K X : Type 0} (items : K → X) (same_item : X → X → Bool) (same_key : K → K → Bool) (same : (x y : K) → same_key x y ≡ same_item (items x) (items y)) where
  -- a set has a key where what it stands for is among what its keys stand for
  pub any_item : (key : K) (ks : List K) → list_any (same_key key) ks ≡ list_any (same_item (items key)) (map items ks)
  any_item key [] = refl
  any_item key (k ∷ ks) = ap (λ (t : Bool). t || list_any (same_key key) ks) (same key k) ∙ ap (λ (t : Bool). same_item (items key) (items k) || t) (any_item key ks)

  last_item : (key : K) (xs : List K) → map items (xs ++ key ∷ []) ≡ map items xs ++ items key ∷ []
  last_item key [] = refl
  last_item key (x ∷ xs) = ap (λ (r : List X). items x ∷ r) (last_item key xs)

  -- a key goes last where it isn't there
  pub added_item : (key : K) (ks : List K)
      → map items (insert_key same_key ks key) ≡ (if list_any (same_item (items key)) (map items ks) then map items ks else map items ks ++ items key ∷ [])
  added_item key ks = cases (list_any (same_key key) ks) (any_item key ks)
    where
      cases : (test : Bool) → test ≡ list_any (same_item (items key)) (map items ks)
          → map items (if test then ks else ks ++ key ∷ []) ≡ (if list_any (same_item (items key)) (map items ks) then map items ks else map items ks ++ items key ∷ [])
      cases true e = ap (λ (t : Bool). if t then map items ks else map items ks ++ items key ∷ []) e
      cases false e = last_item key ks ∙ ap (λ (t : Bool). if t then map items ks else map items ks ++ items key ∷ []) e

-- two lists are the same by what their members stand for
pub pointwise_items : {K X : Type 0} (items : K → X) (same_item : X → X → Bool) (xs ys : List K) → pointwise (λ x y. same_item (items x) (items y)) xs ys ≡ pointwise same_item (map items xs) (map items ys)
pointwise_items items same_item [] [] = refl
pointwise_items items same_item [] (y ∷ ys) = refl
pointwise_items items same_item (x ∷ xs) [] = refl
pointwise_items items same_item (x ∷ xs) (y ∷ ys) = ap (λ (t : Bool). same_item (items x) (items y) && t) (pointwise_items items same_item xs ys)

pub not_some : {A : Type 0} (x : Option A) → is_some x ≡ false → x ≡ None
not_some None e = refl
not_some (Some x) e = cc
