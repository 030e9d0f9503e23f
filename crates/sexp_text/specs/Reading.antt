-- The exact reading of a text from the front: what stands in it, and from which byte to which.
use Rattle.std.specs.Prelude.{ℕ, suc, ◌≡◌, ◌+◌, ◌==◌, ◌||◌, Bool, true, false, not, List, [], ◌∷◌, ◌++◌, Option, Some, None, Result, Ok, Err, map, drop, take, length, slice_range, option_map, if◌then◌else◌}
use Rattle.std.specs.List.{prefix_len}
use Rattle.num_ends.specs.Names.{folded}
use Rattle.sexp_text.specs.Pieces.{Token, Opening, Closing, Leaf, Piece, Blank, Comment, Open, Close, Word, bytes_of, is_blank_byte, is_word_byte}
use Rattle.sexp_text.specs.declared.marks.Mark.{Mark}
use Rattle.sexp_text.specs.declared.marks.Mark.TheVariants as marks
use Rattle.sexp_text.specs.declared.marks.Marked.{Marked}

-- a token with where it begins and ends, or the position of a byte that isn't allowed, where reading ends
pub data Item : Type 0 where
  Says : Token → ℕ → ℕ → Item
  Bad : ℕ → Item

-- the byte says nothing: it stands in a comment, or is a blank or begins a comment
abbrev pub is_gap_byte : Bool → ℕ → Bool
is_gap_byte comment b = comment || (is_blank_byte b || b == 59)

-- whether a comment goes on behind such a byte
abbrev pub comment_after : Bool → ℕ → Bool
comment_after true b = not (b == 10)
comment_after false b = b == 59

abbrev pub begins_word : List ℕ → Bool
begins_word [] = false
begins_word (b ∷ bs) = is_word_byte b

abbrev pub word_len : List ℕ → ℕ
word_len text = prefix_len is_word_byte text

-- the word at the front of a text, with the items behind its first byte: what goes on with the word is no other one
abbrev pub with_word : ℕ → List ℕ → List Item → List Item
with_word at text behind =
    Says (Leaf (map folded (take (word_len text) text))) at (at + word_len text)
    ∷ (if begins_word (drop 1 text) then drop 1 behind else behind)

-- what a text says whose first byte has this position, inside a comment or not
unfoldable pub items_from : Bool → ℕ → List ℕ → List Item
items_from comment at [] = []
items_from comment at (b ∷ bs) =
    if is_gap_byte comment b then items_from (comment_after comment b) (suc at) bs
    else (if b == 40 then Says Opening at (suc at) ∷ items_from false (suc at) bs
    else (if b == 41 then Says Closing at (suc at) ∷ items_from false (suc at) bs
    else (if is_word_byte b then with_word at (b ∷ bs) (items_from false (suc at) bs)
    else Bad at ∷ [])))

-- what stands in a text from a position on
abbrev pub items_at : List ℕ → ℕ → List Item
items_at text at = items_from false at (drop at text)

-- what bytes say that are marked so
abbrev pub token_of_mark : Mark → List ℕ → Token
token_of_mark marks.Opening bytes = Opening
token_of_mark marks.Closing bytes = Closing
token_of_mark marks.Leaf bytes = Leaf (map folded bytes)

abbrev pub item_of : List ℕ → Marked → Item
item_of text m = Says (token_of_mark m.mark (slice_range text m.span.from m.span.to)) m.span.from m.span.to

-- an answer to what stands first in a text from a position on
abbrev pub IsNext : List ℕ → ℕ → Result (Option Marked) ℕ → Type 0
IsNext text at (Ok None) = items_at text at ≡ []
IsNext text at (Ok (Some m)) = items_at text at ≡ item_of text m ∷ items_at text m.span.to
IsNext text at (Err position) = items_at text at ≡ Bad position ∷ []

-- a bracket has one byte
abbrev pub IsPlaced : Mark → ℕ → ℕ → Type 0
IsPlaced marks.Opening from to = to ≡ from + 1
IsPlaced marks.Closing from to = to ≡ from + 1
IsPlaced marks.Leaf from to = Unit {0}

-- the tokens of items, where each byte is allowed
abbrev pub tokens_said : List Item → Option (List Token)
tokens_said [] = Some []
tokens_said (Says token from to ∷ items) = option_map (λ tokens. token ∷ tokens) (tokens_said items)
tokens_said (Bad position ∷ items) = None

-- the item of a piece that begins at a position, where it says something
abbrev pub item_of_piece : ℕ → Piece → List Item
item_of_piece at (Blank b) = []
item_of_piece at (Comment body) = []
item_of_piece at Open = Says Opening at (suc at) ∷ []
item_of_piece at Close = Says Closing at (suc at) ∷ []
item_of_piece at (Word w) = Says (Leaf (map folded w)) at (at + length w) ∷ []

-- the items of pieces of which the first begins at a position
abbrev pub items_of_pieces : ℕ → List Piece → List Item
items_of_pieces at [] = []
items_of_pieces at (p ∷ ps) = item_of_piece at p ++ items_of_pieces (at + length (bytes_of p)) ps
