-- The words of the language, as leaves of a text say them: their letters are folded to lower case.
use Rattle.std.specs.Prelude.{◌||◌, ℕ, ◌+◌, ◌-◌, ◌^◌, ◌++◌, ◌&&◌, ◌==◌, Bool, false, not, cond, List, [], ◌∷◌, Option, Some, None, map, take, drop, length, codes, bytes_eq, nat_le, nat_lt, pos, neg_ℤ, unsigned_abs, slice_range, if◌then◌else◌}
use Rattle.std.specs.List.{list_all, list_any, prefix_len}
use Rattle.std.specs.Str.Parse.{digits_value}
use Rattle.num_ends.specs.Decimal.{Decimal, trimmed}
use Rattle.num_ends.specs.Names.{folded, is_digit, is_name}
use Rattle.sexp_text.specs.declared.marks.Span.{Span}
use Rattle.pddl_terms.specs.declared.expressions.Op.{Op}
use Rattle.pddl_terms.specs.declared.expressions.Op.TheVariants.{Add, Sub, Mul, Div}
use Rattle.pddl_terms.specs.declared.conditions.Rel.{Rel}
use Rattle.pddl_terms.specs.declared.conditions.Rel.TheVariants.{Less, LessEqual, Equal, GreaterEqual, Greater}
use Rattle.pddl_terms.specs.declared.actions.Assign.{Assign}
use Rattle.pddl_terms.specs.declared.actions.Assign.TheVariants.{Set, Up, Down, Scale}

-- the word at a place of a text
abbrev pub word_in : List ℕ → Span → List ℕ
word_in text span = map folded (slice_range text span.from span.to)

abbrev pub is_among : List ℕ → List (List ℕ) → Bool
is_among word words = list_any (λ w. bytes_eq w word) words

-- words of the language that are refused wherever they stand
abbrev pub unsupported_words : List (List ℕ)
unsupported_words = codes "either" ∷ codes "forall" ∷ codes "exists" ∷ codes "when" ∷ codes "scale-down" ∷ []

-- words of conditions and effects, which never stand for a predicate or a function
abbrev pub reserved_words : List (List ℕ)
reserved_words =
    codes "and" ∷ codes "or" ∷ codes "not" ∷ codes "imply" ∷ codes "assign" ∷ codes "increase" ∷ codes "decrease" ∷ codes "scale-up" ∷ []

abbrev pub is_symbol : List ℕ → Bool
is_symbol word = is_name word && not (is_among word reserved_words)

-- `?` and a name
abbrev pub is_variable : List ℕ → Bool
is_variable [] = false
is_variable (b ∷ bs) = b == 63 && is_name bs

-- a `:` comes first
abbrev pub is_key : List ℕ → Bool
is_key [] = false
is_key (b ∷ bs) = b == 58

-- a word that begins with a digit, with a point or `-` and a digit, or with `-.`
abbrev pub is_number_word : List ℕ → Bool
is_number_word [] = false
is_number_word (b ∷ []) = is_digit b
is_number_word (b ∷ c ∷ bs) = is_digit b || ((b == 46 || b == 45) && is_digit c) || (b == 45 && c == 46)

abbrev pub starts_minus : List ℕ → Bool
starts_minus [] = false
starts_minus (b ∷ bs) = b == 45

-- a word without the `-` at its front
abbrev pub without_minus : List ℕ → List ℕ
without_minus word = if starts_minus word then drop 1 word else word

-- how many bytes stand before the first point
abbrev pub before_point : List ℕ → ℕ
before_point word = prefix_len (λ b. not (b == 46)) word

-- the digits before the first point and those behind it, of a word without its sign
abbrev pub digits_of : List ℕ → List ℕ
digits_of word = take (before_point word) word ++ drop (before_point word + 1) word

-- perhaps `-`, digits, and perhaps a point and digits, with at least one digit in all
abbrev pub is_numeral : List ℕ → Bool
is_numeral word = list_all is_digit (digits_of (without_minus word)) && nat_lt 0 (length (digits_of (without_minus word)))

abbrev pub numeral_value : List ℕ → Decimal
numeral_value word = record {
  n = cond (starts_minus word) (neg_ℤ (pos (digits_value 10 (digits_of (without_minus word))))) (pos (digits_value 10 (digits_of (without_minus word))));
  p = length (without_minus word) - (before_point (without_minus word) + 1);
}

-- at most 9 places when trimmed, and in range
abbrev pub is_taken : Decimal → Bool
is_taken d = nat_le d.p 9 && nat_lt (unsigned_abs d.n) (2 ^ 127)

-- the number that a word writes, trimmed, where it has at most 9 places and is in range
unfoldable pub number_in : List ℕ → Option Decimal
number_in word = if is_numeral word && is_taken (trimmed (numeral_value word)) then Some (trimmed (numeral_value word)) else None

abbrev pub operation_of : List ℕ → Option Op
operation_of word =
    if bytes_eq word (codes "+") then Some Add
    else (if bytes_eq word (codes "-") then Some Sub
    else (if bytes_eq word (codes "*") then Some Mul
    else (if bytes_eq word (codes "/") then Some Div else None)))

abbrev pub relation_of : List ℕ → Option Rel
relation_of word =
    if bytes_eq word (codes "<") then Some Less
    else (if bytes_eq word (codes "<=") then Some LessEqual
    else (if bytes_eq word (codes "=") then Some Equal
    else (if bytes_eq word (codes ">=") then Some GreaterEqual
    else (if bytes_eq word (codes ">") then Some Greater else None))))

abbrev pub change_of : List ℕ → Option Assign
change_of word =
    if bytes_eq word (codes "assign") then Some Set
    else (if bytes_eq word (codes "increase") then Some Up
    else (if bytes_eq word (codes "decrease") then Some Down
    else (if bytes_eq word (codes "scale-up") then Some Scale else None)))

-- a name or a variable without its `?`
abbrev pub bare_name : List ℕ → List ℕ
bare_name [] = []
bare_name (b ∷ bs) = if b == 63 then bs else b ∷ bs
