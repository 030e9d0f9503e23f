-- The pieces of a text: blanks, comments, brackets and words, and the tokens that they are.
use Rattle.std.specs.Prelude.{ℕ, ◌≡◌, ◌&&◌, ◌||◌, ◌==◌, Bool, true, false, not, List, [], ◌∷◌, Option, Some, None, map, flat_map, filter_map, IsTrue, nat_le}
use Rattle.std.specs.List.{list_all}
use Rattle.num_ends.specs.Names.{folded}

-- a space, a tab, a line feed or a carriage return
abbrev pub is_blank_byte : ℕ → Bool
is_blank_byte b = b == 32 || b == 9 || b == 10 || b == 13

-- a visible byte of ASCII but for brackets and `;`
abbrev pub is_word_byte : ℕ → Bool
is_word_byte b = nat_le 33 b && nat_le b 126 && not (b == 40) && not (b == 41) && not (b == 59)

pub data Piece : Type 0 where
  Blank : ℕ → Piece
  Comment : List ℕ → Piece
  Open : Piece
  Close : Piece
  Word : List ℕ → Piece

-- the bytes of a piece; a comment's are `;` and what follows up to the end of its line
abbrev pub bytes_of : Piece → List ℕ
bytes_of (Blank b) = b ∷ []
bytes_of (Comment body) = 59 ∷ body
bytes_of Open = 40 ∷ []
bytes_of Close = 41 ∷ []
bytes_of (Word w) = w

abbrev pub is_piece : Piece → Bool
is_piece (Blank b) = is_blank_byte b
is_piece (Comment body) = list_all (λ b. not (b == 10)) body
is_piece Open = true
is_piece Close = true
is_piece (Word []) = false
is_piece (Word (b ∷ bs)) = list_all is_word_byte (b ∷ bs)

abbrev pub is_line_feed : Piece → Bool
is_line_feed (Blank b) = b == 10
is_line_feed (Comment body) = false
is_line_feed Open = false
is_line_feed Close = false
is_line_feed (Word w) = false

abbrev pub is_word : Piece → Bool
is_word (Blank b) = false
is_word (Comment body) = false
is_word Open = false
is_word Close = false
is_word (Word w) = true

-- a word ends where another piece begins, and a comment with its line
abbrev pub may_follow : Piece → Piece → Bool
may_follow (Blank b) next = true
may_follow (Comment body) next = is_line_feed next
may_follow Open next = true
may_follow Close next = true
may_follow (Word w) next = not (is_word next)

abbrev pub is_split : List Piece → Bool
is_split [] = true
is_split (p ∷ []) = is_piece p
is_split (p ∷ q ∷ ps) = is_piece p && may_follow p q && is_split (q ∷ ps)

-- the text is these pieces, one after another
pub record IsTextOf (pieces : List Piece) (text : List ℕ) : Type 0 where
  pub spelled : text ≡ flat_map bytes_of pieces
  pub split : IsTrue (is_split pieces)

-- What a text says: its brackets and its words with their letters folded, in order.
pub data Token : Type 0 where
  Opening : Token
  Closing : Token
  Leaf : List ℕ → Token

abbrev pub token_of : Piece → Option Token
token_of (Blank b) = None
token_of (Comment body) = None
token_of Open = Some Opening
token_of Close = Some Closing
token_of (Word w) = Some (Leaf (map folded w))

pub record SpellsTokens (text : List ℕ) (tokens : List Token) : Type 0 where
  pub pieces : List Piece
  pub text_of_pieces : IsTextOf pieces text
  pub tokens_of_pieces : tokens ≡ filter_map token_of pieces
