-- What `parse` reads of one to seven digits.
use Rattle.std.proofs.Common.{rules, arith, ℕ, ◌≡◌, ◌<◌, ◌≤◌, true, List, length, ap, nat_le}
use Rattle.std.specs.Prelude.{Result}
use Rattle.std.specs.Result.{result_ok}
use Rattle.std.specs.Str.{all_ascii_digits}
use Rattle.std.specs.Str.Parse.{ParsesUnsigned, digits_value}
use Rattle.std.proofs.lemmas.Str.Parse.{IsNumeralModel, digits_value_short, numerals_by_value, parse_gives, tells_all_ascii_digits}
use Rattle.enhsp_words.specs.Jobs.{numeral_of}

own : IsNumeralModel (λ ds. all_ascii_digits ds ≡ true) (digits_value 10)
own = numerals_by_value _ tells_all_ascii_digits

pub seven_digits : {E : Type 0} (text : List ℕ) (r : Result ℕ E) → ParsesUnsigned 32 10 text r
    → all_ascii_digits text ≡ true → 0 < length text → length text ≤ 7 → result_ok r ≡ numeral_of text
seven_digits text r parsed digits some few =
    let low : nat_le 1 (length text) ≡ true = search rules in
    let high : nat_le (length text) 7 ≡ true = search rules in
    let short = digits_value_short own text 7 digits few in
    rw (low, high, digits) (ap result_ok (parse_gives own 32 text r parsed digits some (omega arith)))
