-- What reading a text as a number answers.
use Rattle.std.specs.Prelude.{ℕ, ◌≡◌, ◌≤◌, ◌<◌, List, Result, Ok, Err}
use Rattle.num_ends.specs.Decimal.{Decimal, IsDec, trimmed}
use Rattle.num_ends.specs.Texts.{IsNumeral}
use Rattle.num_ends.specs.declared.faults.NumFault.{NumFault}
use Rattle.num_ends.specs.declared.faults.NumFault.TheVariants.{NotNumber, TooManyPlaces, Range}

-- what reading a text as a number of at most so many places answers
abbrev pub IsReading : List ℕ → ℕ → Result Decimal NumFault → Type 0
IsReading text most (Ok d) = (e : Decimal) × IsNumeral text e × (d ≡ trimmed e) × (d.p ≤ most)
IsReading text most (Err NotNumber) = (e : Decimal) → IsNumeral text e → ⊥
IsReading text most (Err TooManyPlaces) = (e : Decimal) × IsNumeral text e × (most < (trimmed e).p)
IsReading text most (Err Range) = (e : Decimal) × IsNumeral text e × ((trimmed e).p ≤ most) × (IsDec (trimmed e) → ⊥)
