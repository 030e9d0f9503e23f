-- The number of a name is its first place, and what stands there is the first with this name.
use Rattle.std.proofs.Common.{◌≡◌, ◌||◌, ◌<◌, ℕ, suc, ◌+◌, length, Bool, true, false, cond, List, [], ◌∷◌, ◌++◌, Option, Some, None, map, refl, sym, ap, ◌∙◌, is_some, if◌then◌else◌, add-one, arith, slice_get}
use Rattle.std.specs.Prelude.{bytes_eq, option_map}
use Rattle.std.specs.Option.{option_and_then, option_or}
use Rattle.std.specs.List.{find}
use Rattle.std.proofs.lemmas.Slice.Eq.{bytes_eq-Decides}
use Rattle.pddl_terms.specs.declared.names.Name.{Name}
use Rattle.name_table.specs.Tables.{is_text_among}
use Rattle.name_table.specs.Tables.{table_number, with_number, numbered_from, numbered, place_in}

number_after : (text : List ℕ) (es : List (List ℕ × ℕ)) (u : List ℕ) (number : ℕ)
    → table_number text (es ++ (u, number) ∷ []) ≡ option_or (table_number text es) (if bytes_eq text u then Some number else None)
number_after text [] u number = refl
number_after text (e ∷ es) u number = cases (bytes_eq text e.0) refl (number_after text es u number)
  where
    cases : (test : Bool) → bytes_eq text e.0 ≡ test
        → table_number text (es ++ (u, number) ∷ []) ≡ option_or (table_number text es) (if bytes_eq text u then Some number else None)
        → table_number text ((e ∷ es) ++ (u, number) ∷ []) ≡ option_or (table_number text (e ∷ es)) (if bytes_eq text u then Some number else None)
    cases true t rest =
        ap (λ (b : Bool). if b then Some e.1 else table_number text (es ++ (u, number) ∷ [])) t
        ∙ ap (λ (b : Bool). option_or (if b then Some e.1 else table_number text es) (if bytes_eq text u then Some number else None)) (sym t)
    cases false t rest =
        ap (λ (b : Bool). if b then Some e.1 else table_number text (es ++ (u, number) ∷ [])) t
        ∙ rest
        ∙ ap (λ (b : Bool). option_or (if b then Some e.1 else table_number text es) (if bytes_eq text u then Some number else None)) (sym t)

number_with : (text : List ℕ) (es : List (List ℕ × ℕ)) (u : List ℕ) (number : ℕ)
    → table_number text (with_number es u number) ≡ option_or (table_number text es) (if bytes_eq text u then Some number else None)
number_with text es u number = cases (table_number u es) refl
  where
    there : (m : ℕ) → table_number u es ≡ Some m → (test : Bool) → bytes_eq text u ≡ test
        → table_number text es ≡ option_or (table_number text es) (if bytes_eq text u then Some number else None)
    there m h true t =
        let same : text ≡ u = (bytes_eq-Decides text u).0 t in
        let found : table_number text es ≡ Some m = ap (λ (w : List ℕ). table_number w es) same ∙ h in
        found ∙ sym (ap (λ (x : Option ℕ). option_or x (if bytes_eq text u then Some number else None)) found)
    there m h false t = other (table_number text es) ∙ ap (λ (b : Bool). option_or (table_number text es) (if b then Some number else None)) (sym t)
      where
        other : (x : Option ℕ) → x ≡ option_or x None
        other None = refl
        other (Some x) = refl

    cases : (x : Option ℕ) → table_number u es ≡ x → table_number text (with_number es u number) ≡ option_or (table_number text es) (if bytes_eq text u then Some number else None)
    cases (Some m) h = ap (λ (x : Option ℕ). table_number text (if is_some x then es else es ++ (u, number) ∷ [])) h ∙ there m h (bytes_eq text u) refl
    cases None h = ap (λ (x : Option ℕ). table_number text (if is_some x then es else es ++ (u, number) ∷ [])) h ∙ number_after text es u number

number_from : (text : List ℕ) (es : List (List ℕ × ℕ)) (k : ℕ) (ns : List Name)
    → table_number text (numbered_from es k ns) ≡ option_or (table_number text es) (option_map (λ place. place + k) (place_in text ns))
number_from text es k [] = other (table_number text es)
  where
    other : (x : Option ℕ) → x ≡ option_or x None
    other None = refl
    other (Some x) = refl
number_from text es k (n ∷ ns) =
    number_from text (with_number es n.text k) (k + 1) ns
    ∙ ap (λ (x : Option ℕ). option_or x (option_map (λ place. place + (k + 1)) (place_in text ns))) (number_with text es n.text k)
    ∙ joined (table_number text es) (bytes_eq text n.text) (place_in text ns)
  where
    joined : (x : Option ℕ) (test : Bool) (place : Option ℕ)
        → option_or (option_or x (if test then Some k else None)) (option_map (λ i. i + (k + 1)) place) ≡ option_or x (option_map (λ i. i + k) (if test then Some 0 else option_map (λ i. i + 1) place))
    joined (Some x) true place = refl
    joined (Some x) false place = refl
    joined None true place = ap Some (omega arith)
    joined None false None = refl
    joined None false (Some i) = ap Some (omega arith)

-- the number of a name is its first place
pub number_is_place : (text : List ℕ) (names : List Name) → table_number text (numbered names) ≡ place_in text names
unfolding numbered
number_is_place text names = number_from text [] 0 names ∙ same (place_in text names)
  where
    same : (x : Option ℕ) → option_or None (option_map (λ place. place + 0) x) ≡ x
    same None = refl
    same (Some i) = ap Some (omega arith)

pub some_place : (text : List ℕ) (names : List Name) → is_some (place_in text names) ≡ is_text_among text (map (λ n. n.text) names)
some_place text [] = refl
some_place text (n ∷ ns) = cases (bytes_eq text n.text) (place_in text ns) (some_place text ns)
  where
    cases : (test : Bool) (place : Option ℕ) → is_some place ≡ is_text_among text (map (λ n. n.text) ns)
        → is_some (if test then Some 0 else option_map (λ i. i + 1) place) ≡ (test || is_text_among text (map (λ n. n.text) ns))
    cases true place h = refl
    cases false None h = h
    cases false (Some i) h = h

-- what stands at the first place of a name is the first that has it
pub at_place : {A : Type 0} (name_of : A → Name) (text : List ℕ) (xs : List A)
    → option_and_then (slice_get xs) (place_in text (map name_of xs)) ≡ find (λ x. bytes_eq text (name_of x).text) xs
at_place name_of text [] = refl
at_place {A} name_of text (x ∷ xs) = cases (bytes_eq text (name_of x).text) (place_in text (map name_of xs)) (at_place name_of text xs)
  where
    cases : (test : Bool) (place : Option ℕ) → option_and_then (slice_get xs) place ≡ find (λ y. bytes_eq text (name_of y).text) xs
        → option_and_then (slice_get (x ∷ xs)) (if test then Some 0 else option_map (λ i. i + 1) place) ≡ cond test (Some x) (find (λ y. bytes_eq text (name_of y).text) xs)
    cases true place h = refl
    cases false None h = h
    cases false (Some i) h = ap (slice_get (x ∷ xs)) (add-one i) ∙ h

pub first_by_number : {A : Type 0} (name_of : A → Name) (text : List ℕ) (numbers : List (List ℕ × ℕ)) (xs : List A) → numbers ≡ numbered (map name_of xs)
    → option_and_then (slice_get xs) (table_number text numbers) ≡ find (λ x. bytes_eq text (name_of x).text) xs
first_by_number name_of text numbers xs same =
    ap (λ (es : List (List ℕ × ℕ)). option_and_then (slice_get xs) (table_number text es)) same
    ∙ ap (option_and_then (slice_get xs)) (number_is_place text (map name_of xs))
    ∙ at_place name_of text xs

-- a place is one of the list's
pub place_within : (text : List ℕ) (names : List Name) (i : ℕ) → Some i ≡ place_in text names → i < length names
place_within text [] i h = cc
place_within text (n ∷ ns) i h = cases (bytes_eq text n.text) (place_in text ns) h (λ j e. place_within text ns j e)
  where
    cases : (test : Bool) (place : Option ℕ) → Some i ≡ (if test then Some 0 else option_map (λ j. j + 1) place) → ((j : ℕ) → Some j ≡ place → j < length ns) → i < length (n ∷ ns)
    cases true place e rest =
        let first : i ≡ 0 = cc in
        omega arith
    cases false None e rest = cc
    cases false (Some j) e rest =
        let behind : i ≡ j + 1 = cc in
        let within = rest j refl in
        omega arith

-- a name of two lists stands in the first, or else in the second behind it
pub place_behind : (text : List ℕ) (xs ys : List Name) → place_in text (xs ++ ys) ≡ option_or (place_in text xs) (option_map (λ i. length xs + i) (place_in text ys))
place_behind text [] ys = same (place_in text ys)
  where
    same : (x : Option ℕ) → x ≡ option_map (λ i. 0 + i) x
    same None = refl
    same (Some i) = ap Some (omega arith)
place_behind text (n ∷ ns) ys =
    ap (λ (x : Option ℕ). if bytes_eq text n.text then Some 0 else option_map (λ i. i + 1) x) (place_behind text ns ys)
    ∙ cases (bytes_eq text n.text) (place_in text ns) (place_in text ys)
  where
    cases : (test : Bool) (x y : Option ℕ)
        → (if test then Some 0 else option_map (λ i. i + 1) (option_or x (option_map (λ i. length ns + i) y)))
        ≡ option_or (if test then Some 0 else option_map (λ i. i + 1) x) (option_map (λ i. suc (length ns) + i) y)
    cases true x y = refl
    cases false (Some i) y = refl
    cases false None None = refl
    cases false None (Some i) = ap Some (omega arith)

-- the number in the table of names in order is the first place
pub place_by_table : (text : List ℕ) (table : List (List ℕ × ℕ)) (names : List Name) (number : Option ℕ) → table ≡ numbered names → number ≡ table_number text table
    → number ≡ place_in text names
place_by_table text table names number same h = h ∙ ap (table_number text) same ∙ number_is_place text names
