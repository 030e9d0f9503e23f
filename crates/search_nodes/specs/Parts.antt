-- What a node's status has to do with the frontier, the first goal node and the number of taken ones.
use Rattle.std.specs.Prelude.{ℕ, suc, ◌≡◌, ◌-◌, ◌==◌, Option, Some, None, false, if◌then◌else◌}
use Rattle.std.specs.FinSet as set
use Rattle.open_list.specs.Frontier.{Frontier}
use Rattle.search_runs.specs.declared.nodes.Status.{Status}
use Rattle.search_runs.specs.declared.nodes.Status.TheVariants.{Waiting, Taken, Closed, Goal, Dead}

-- a node that comes
abbrev pub joined_frontier : Frontier → ℕ → Status → Frontier
joined_frontier frontier n (Waiting h) = set.insert frontier (h, n)
joined_frontier frontier n (Taken w) = frontier
joined_frontier frontier n Closed = frontier
joined_frontier frontier n Goal = frontier
joined_frontier frontier n (Dead b) = frontier

abbrev pub joined_goal : Option ℕ → ℕ → Status → Option ℕ
joined_goal (Some first) n st = Some first
joined_goal None n (Waiting h) = None
joined_goal None n (Taken w) = None
joined_goal None n Closed = None
joined_goal None n Goal = Some n
joined_goal None n (Dead b) = None

abbrev pub joined_taken : ℕ → Status → ℕ
joined_taken taken (Waiting h) = taken
joined_taken taken (Taken w) = suc taken
joined_taken taken Closed = taken
joined_taken taken Goal = taken
joined_taken taken (Dead b) = taken

-- a node that goes
abbrev pub left_frontier : Frontier → ℕ → Status → Frontier
left_frontier frontier n (Waiting h) = set.remove frontier (h, n)
left_frontier frontier n (Taken w) = frontier
left_frontier frontier n Closed = frontier
left_frontier frontier n Goal = frontier
left_frontier frontier n (Dead b) = frontier

abbrev pub left_goal : Option ℕ → ℕ → Option ℕ
left_goal None n = None
left_goal (Some first) n = if first == n then None else Some first

abbrev pub left_taken : ℕ → Status → ℕ
left_taken taken (Waiting h) = taken
left_taken taken (Taken w) = taken - 1
left_taken taken Closed = taken
left_taken taken Goal = taken
left_taken taken (Dead b) = taken

-- where the node waits, its pair isn't in the frontier yet
abbrev pub CanJoin : Frontier → ℕ → Status → Type 0
CanJoin frontier n st = (h : ℕ) → st ≡ Waiting h → set.contains frontier (h, n) ≡ false
