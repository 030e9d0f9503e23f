-- What a seat has seen stays between the start row and the least closed row.
use Rattle.std.proofs.Common.{◌≡◌, ℕ, ◌<◌, List, length, get_or, set, sym, ◌∙◌, arith}
use Rattle.bound_words.specs.Rows.{Terms, IsPast, IsRow, IsRowPast, IsBetween, IsBetweenAt, IsWithinClosed}
use Rattle.bound_words.specs.Protocol.{further_row}
use Rattle.bound_words.proofs.Lists.{set_cases}
use Rattle.bound_words.proofs.Rows.{row_past_trans}
use Rattle.bound_words.proofs.Sharing.{length-further_row, further_row_left, further_row_least}

module _ (t : Terms) (start : List ℕ) where
  pub between-set : (row : List ℕ) (i y : ℕ) → i < length row → IsBetween t start row → IsBetweenAt t start i y → IsBetween t start (set row i y)
  between-set row i y h b at = record {
    after_start = set_cases (λ w x. w < t.words → IsPast (t.direction w) (get_or start w 0) x) row i y h (λ _. at.after_start) (λ w ne lt. b.after_start w lt);
    before_closed = λ c closed past. set_cases (λ w x. w < t.words → IsPast (t.direction w) x (get_or c w 0)) row i y h (λ _. at.before_closed c closed past) (λ w ne lt. b.before_closed c closed past w lt);
  }

  pub between-further : (a b : List ℕ) → IsRow t a → IsRow t b → IsBetween t start a → IsBetween t start b → IsBetween t start (further_row t 0 a b)
  between-further a b ra rb p q = let same : length a ≡ length b = ra.length_is ∙ sym rb.length_is in record {
    after_start = row_past_trans t start a (further_row t 0 a b) p.after_start (further_row_left t a b ra.length_is rb.length_is);
    before_closed = λ c closed past w lt. further_row_least t a b c same (λ v h. p.before_closed c closed past v (let e = ra.length_is in omega arith)) (λ v h. q.before_closed c closed past v (let e = rb.length_is in omega arith)) w
        (let e = length-further_row t 0 a b same in let f = ra.length_is in omega arith);
  }

  pub between-later : (a b : List ℕ) → IsBetween t start a → IsRowPast t a b → IsWithinClosed t start b → IsBetween t start b
  between-later a b p past within = record { after_start = row_past_trans t start a b p.after_start past; before_closed = within }
