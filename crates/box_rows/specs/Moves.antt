-- Where a change may move a fluent in a box.
use Rattle.std.specs.Prelude.{ℕ, ◌||◌, List, Bool, true, false, Option, Some, None, slice_index_or}
use Rattle.num_ends.specs.Decimal.{Decimal, origin}
use Rattle.num_ends.specs.Ends.{Interval, may_less, point_of}
use Rattle.ground_task.specs.declared.raw.Change.{Change}
use Rattle.ground_task.specs.declared.raw.Change.TheVariants.{Add, Set}
use Rattle.box_model.specs.Boxes.{fluent_in}
use Rattle.box_model.specs.Demands.{constant_of}
use Rattle.box_model.specs.Hold.{interval_of, read_interval}
use Rattle.box_model.specs.declared.caps.Side.{Side}
use Rattle.box_model.specs.declared.caps.Side.TheVariants.{Upper, Lower}
use Rattle.box_model.specs.declared.state_box.StateBox.{StateBox}

-- some value of the second interval lies past some value of the first
abbrev pub is_past : Side → Interval → Interval → Bool
is_past Upper from to = may_less from to
is_past Lower from to = may_less to from

abbrev pub is_constant : Option Decimal → Bool
is_constant None = false
is_constant (Some c) = true

-- a change of x may move it to this side in a box, or assigns a constant
abbrev pub may_move : List ℕ → StateBox → Side → ℕ → Change → Bool
may_move places b side x (Add e) = is_past side (point_of origin) (interval_of places b e)
may_move places b side x (Set e) =
    is_constant (constant_of e) || is_past side (read_interval (slice_index_or places x 0) (fluent_in b x)) (interval_of places b e)
