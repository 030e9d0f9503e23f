-- Which numbers and operands the code's decimals can be, as tests.
use Rattle.std.specs.Prelude.{ℤ, ◌^◌, ◌&&◌, Bool, Option, Some, None, nat_lt, unsigned_abs, if◌then◌else◌}
use Rattle.num_ends.specs.Decimal.{Decimal, common_places, number_at}

-- from -(2^127 - 1) to 2^127 - 1
abbrev pub in_range : ℤ → Bool
in_range n = nat_lt (unsigned_abs n) (2 ^ 127)

-- both are in range at the larger of their counts of places
abbrev pub operands_fit : Decimal → Decimal → Bool
operands_fit a b = in_range (number_at (common_places a b) a) && in_range (number_at (common_places a b) b)

-- a decimal where a test passes
abbrev pub where_fits : Bool → Decimal → Option Decimal
where_fits fits d = if fits then Some d else None
