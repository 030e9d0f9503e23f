-- The faults of a pair, and which of them comes first.
use Rattle.std.specs.Prelude.{ℕ, ◌||◌, ◌&&◌, ◌==◌, Bool, List, Option, Some, None, fold, nat_lt, if◌then◌else◌}
use Rattle.pddl_terms.specs.declared.names.Name.{Name}
use Rattle.pddl_types.specs.declared.faults.Side.{Side}
use Rattle.pddl_types.specs.declared.faults.Side.TheVariants as side
use Rattle.pddl_types.specs.declared.faults.CheckKind.{CheckKind}
use Rattle.pddl_types.specs.declared.faults.CheckKind.TheVariants as kind
use Rattle.pddl_types.specs.declared.faults.Fault.{Fault}

abbrev pub check_fault : Side → CheckKind → Name → Fault
check_fault side kind name = record { side = side; kind = kind; name = name }

-- ---- order

-- the domain comes before the problem
abbrev pub side_rank : Side → ℕ
side_rank side.Domain = 0
side_rank side.Problem = 1

-- the order of reasons at one place
abbrev pub kind_rank : CheckKind → ℕ
kind_rank kind.Duplicate = 0
kind_rank kind.UnknownType = 1
kind_rank kind.CyclicType = 2
kind_rank kind.UnknownName = 3
kind_rank kind.Arity = 4
kind_rank kind.WrongType = 5
kind_rank kind.Divide = 6

-- of two faults of one file the one at the smaller position is earlier, and at one place the reason of smaller rank
abbrev pub is_earlier_there : Fault → Fault → Bool
is_earlier_there f g = nat_lt f.name.at g.name.at || (f.name.at == g.name.at && nat_lt (kind_rank f.kind) (kind_rank g.kind))

-- a fault of the domain is earlier than one of the problem
abbrev pub is_earlier : Fault → Fault → Bool
is_earlier f g = nat_lt (side_rank f.side) (side_rank g.side) || (side_rank f.side == side_rank g.side && is_earlier_there f g)

-- ---- the first

-- the first of the faults so far and a further one
abbrev pub with_fault : Option Fault → Fault → Option Fault
with_fault None fault = Some fault
with_fault (Some first) fault = if is_earlier fault first then Some fault else Some first

-- the first of the faults so far and further ones
abbrev pub with_faults : Option Fault → List Fault → Option Fault
with_faults first faults = fold with_fault first faults

abbrev pub earliest_fault : List Fault → Option Fault
earliest_fault faults = with_faults None faults
