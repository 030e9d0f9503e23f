-- How often an action is applied until a form is met.
use Rattle.std.specs.Prelude.{ℕ, ◌+◌, ◌-◌, ◌/◌, ◌≡◌, ◌<◌, ◌≤◌, ◌&&◌, ◌||◌, ◌*ℤ◌, pos, not, Bool, true, false, Option, Some, None, min, int_lt, unsigned_abs, if◌then◌else◌}
use Rattle.num_ends.specs.Decimal.{Decimal, common_places, number_at, is_at_most, sum_of}
use Rattle.num_ends.specs.Range.{operands_fit}
use Rattle.simple_atoms.specs.declared.linear.Linear.{Linear}
use Rattle.simple_atoms.specs.declared.linear.TheConstants.{FAR}
use Rattle.simple_atoms.specs.Values.{is_met}

-- a gain leads towards what the form is to be: it is above 0, or its sign is not that of the value
abbrev pub helps : Linear → Decimal → Decimal → Bool
helps f value gain =
    if f.equal then int_lt value.n (pos 0) && int_lt (pos 0) gain.n || int_lt (pos 0) value.n && int_lt gain.n (pos 0)
    else int_lt (pos 0) gain.n

-- only what is above 0 asks for more than to reach it
abbrev pub is_passing : Linear → Bool
is_passing f = f.strict && not f.equal

-- how often a gain of this size goes into a gap of this size, and once more: so it is passed, or else reached
abbrev pub steps_over : Bool → ℕ → ℕ → ℕ
steps_over passing gap gain = (if passing then gap else gap - 1) / gain + 1

-- the sizes of value and gain at the larger of their counts of places, where both are in range there
unfoldable pub sizes_of : Decimal → Decimal → Option (ℕ × ℕ)
sizes_of value gain =
    if operands_fit value gain
    then Some (unsigned_abs (number_at (common_places value gain) value), unsigned_abs (number_at (common_places value gain) gain))
    else None

abbrev pub steps_of : Linear → Option (ℕ × ℕ) → ℕ
steps_of f None = 1
steps_of f (Some sizes) = min FAR (steps_over (is_passing f) sizes.0 sizes.1)

-- how often an action of this gain is applied from this value, which doesn't meet the form, cut at FAR; once where the
-- two can't be brought to the larger of their counts of places; none where the gain doesn't help
abbrev pub repetitions : Linear → Decimal → Decimal → Option ℕ
repetitions f value gain = if helps f value gain then Some (steps_of f (sizes_of value gain)) else None

-- ---- what that is

-- so many gains
abbrev pub times : ℕ → Decimal → Decimal
times m gain = record { n = pos m *ℤ gain.n; p = gain.p }

abbrev pub size_of : Decimal → Decimal
size_of d = record { n = pos (unsigned_abs d.n); p = d.p }

-- so many gains close the gap: where the form is to be 0, they are at least as large as the value; else the form is met
abbrev pub closes : Linear → Decimal → Decimal → ℕ → Bool
closes f value gain m =
    if f.equal then is_at_most (size_of value) (times m (size_of gain))
    else is_met f (sum_of value (times m gain))

-- the least number of gains that close the gap, where it is below FAR
pub record IsLeastClosing (f : Linear) (value gain : Decimal) (m : ℕ) : Type 0 where
  pub some : 1 ≤ m
  pub closing : m < FAR → closes f value gain m ≡ true
  pub least : (k : ℕ) → k < m → closes f value gain k ≡ false
