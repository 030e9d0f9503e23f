-- The names of the language, and the texts of ground facts, fluents and actions.
use Rattle.std.specs.Prelude.{ℕ, ◌≡◌, ◌+◌, ◌++◌, Bool, false, ◌||◌, ◌&&◌, ◌==◌, List, [], ◌∷◌, codes, IsTrue, nat_le, if◌then◌else◌}
use Rattle.std.specs.List.{list_all, join_with_byte}

abbrev pub is_lower_letter : ℕ → Bool
is_lower_letter b = nat_le 97 b && nat_le b 122

abbrev pub is_digit : ℕ → Bool
is_digit b = nat_le 48 b && nat_le b 57

-- a letter or `_`
abbrev pub begins_name : ℕ → Bool
begins_name b = is_lower_letter b || b == 95

-- a letter, a digit, `-`, `_` or `.`
abbrev pub continues_name : ℕ → Bool
continues_name b = begins_name b || is_digit b || b == 45 || b == 46

-- an upper-case letter as the lower-case one, and any other byte as it is
abbrev pub folded : ℕ → ℕ
folded b = if nat_le 65 b && nat_le b 90 then b + 32 else b

-- a name, its letters folded to lower case
abbrev pub is_name : List ℕ → Bool
is_name [] = false
is_name (b ∷ bs) = begins_name b && list_all continues_name bs

-- a name and the names of objects, in brackets and with single spaces, such as `(move a b)`
pub record IsGroundText (text : List ℕ) : Type 0 where
  pub name : List ℕ
  pub objects : List (List ℕ)
  pub spelled : text ≡ codes "(" ++ join_with_byte 32 (name ∷ objects) ++ codes ")"
  pub a_name : IsTrue (is_name name)
  pub object_names : IsTrue (list_all is_name objects)
