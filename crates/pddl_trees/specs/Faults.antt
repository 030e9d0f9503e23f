-- The faults of a text, and which of them comes first.
use Rattle.std.specs.Prelude.{◌||◌, ℕ, ◌&&◌, ◌==◌, Bool, List, Option, Some, None, fold, nat_lt, if◌then◌else◌}
use Rattle.pddl_terms.specs.declared.limits.What.{What}
use Rattle.pddl_terms.specs.declared.limits.What.TheVariants as what
use Rattle.pddl_trees.specs.declared.faults.Reason.{Reason}
use Rattle.pddl_trees.specs.declared.faults.Reason.TheVariants as reason
use Rattle.pddl_trees.specs.declared.faults.Fault.{Fault}

-- the order of limits at one place
abbrev pub limit_rank : What → ℕ
limit_rank what.Letters = 1
limit_rank what.Objects = 2
limit_rank what.Parameters = 3
limit_rank what.Effects = 4
limit_rank what.Prefixes = 5
limit_rank what.Actions = 6
limit_rank what.Facts = 7
limit_rank what.Fluents = 8
limit_rank what.Supporters = 9

-- the order of reasons at one place
abbrev pub rank_of : Reason → ℕ
rank_of reason.Number = 0
rank_of (reason.TooMany w) = limit_rank w
rank_of reason.Unsupported = 10
rank_of reason.Shape = 11
rank_of reason.TooDeep = 12

-- a fault at a smaller position comes before, and at one place the reason of smaller rank
abbrev pub is_before : Fault → Fault → Bool
is_before f g = nat_lt f.at g.at || (f.at == g.at && nat_lt (rank_of f.reason) (rank_of g.reason))

abbrev pub fault_at : ℕ → Reason → Fault
fault_at at reason = record { at = at; reason = reason }

-- the first of the faults so far and a further one
abbrev pub noted : Option Fault → Fault → Option Fault
noted None fault = Some fault
noted (Some first) fault = if is_before fault first then Some fault else Some first

-- the first of the faults so far and further ones
abbrev pub all_noted : Option Fault → List Fault → Option Fault
all_noted first faults = fold noted first faults

-- the first of the faults
abbrev pub first_fault : List Fault → Option Fault
first_fault faults = all_noted None faults
