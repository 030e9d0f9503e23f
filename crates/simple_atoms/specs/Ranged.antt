-- Sums and products of trimmed decimals, trimmed again, where they are in the range of the code's numbers.
use Rattle.std.specs.Prelude.{◌+◌, ◌&&◌, Option, nat_le}
use Rattle.num_ends.specs.Decimal.{Decimal, sum_of, product_of, trimmed}
use Rattle.num_ends.specs.Range.{in_range, operands_fit, where_fits}

-- the operands are in range at the larger of their counts of places, and so is the sum
unfoldable pub trimmed_sum : Decimal → Decimal → Option Decimal
trimmed_sum a b = where_fits (operands_fit a b && in_range (sum_of a b).n) (trimmed (sum_of a b))

-- the product is in range with the places of both, which are at most 18
unfoldable pub trimmed_product : Decimal → Decimal → Option Decimal
trimmed_product a b = where_fits (nat_le (a.p + b.p) 18 && in_range (product_of a b).n) (trimmed (product_of a b))
