-- Names with numbers, and sets of names.
use Rattle.std.specs.Prelude.{ℕ, ◌+◌, ◌++◌, Bool, List, [], ◌∷◌, Option, Some, None, bytes_eq, is_some, option_map, if◌then◌else◌}
use Rattle.std.specs.List.{list_any}
use Rattle.pddl_terms.specs.declared.names.Name.{Name}

-- ---- names with numbers

-- the number of a name, where it has one
abbrev pub table_number : List ℕ → List (List ℕ × ℕ) → Option ℕ
table_number text [] = None
table_number text (e ∷ es) = if bytes_eq text e.0 then Some e.1 else table_number text es

-- a further name, which keeps the number that it has
abbrev pub with_number : List (List ℕ × ℕ) → List ℕ → ℕ → List (List ℕ × ℕ)
with_number es text number = if is_some (table_number text es) then es else es ++ (text, number) ∷ []

-- names in order, the first of them with this number
abbrev pub numbered_from : List (List ℕ × ℕ) → ℕ → List Name → List (List ℕ × ℕ)
numbered_from es number [] = es
numbered_from es number (n ∷ ns) = numbered_from (with_number es n.text number) (number + 1) ns

-- names in order, each with the number of its first place
unfoldable pub numbered : List Name → List (List ℕ × ℕ)
numbered names = numbered_from [] 0 names

-- the first place of a name
abbrev pub place_in : List ℕ → List Name → Option ℕ
place_in text [] = None
place_in text (n ∷ ns) = if bytes_eq text n.text then Some 0 else option_map (λ place. place + 1) (place_in text ns)

-- ---- sets of names

-- a text is one of some texts
abbrev pub is_text_among : List ℕ → List (List ℕ) → Bool
is_text_among text texts = list_any (λ t. bytes_eq text t) texts

-- texts so far with a further one
abbrev pub with_text : List (List ℕ) → List ℕ → List (List ℕ)
with_text texts text = if is_text_among text texts then texts else texts ++ text ∷ []
