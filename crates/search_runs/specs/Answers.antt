-- The answer of a search, and the path to a node.
use Rattle.std.specs.Prelude.{ℕ, zero, suc, ◌+◌, Bool, true, false, List, [], ◌∷◌, ◌++◌, slice_get, Option, None, Some, if◌then◌else◌, option_map, nat_lt}
use Rattle.search_runs.specs.declared.answers.Answer.{Answer}
use Rattle.search_runs.specs.declared.answers.Answer.TheVariants.{Plan, Exhausted, Expansions, Filled, Starved}
use Rattle.search_runs.specs.declared.answers.Answer.TheVariants as answer
use Rattle.search_runs.specs.declared.events.Event.{Event}
use Rattle.search_runs.specs.declared.nodes.Node.{Node}
use Rattle.search_runs.specs.declared.nodes.Status.{Status}
use Rattle.search_runs.specs.declared.nodes.Status.TheVariants.{Waiting, Taken, Closed, Goal, Dead}
use Rattle.search_runs.specs.Nodes.{Config}
use Rattle.search_runs.specs.Runs.{count_takes, has_starve}

abbrev pub is_taken : Status → Bool
is_taken (Waiting h) = false
is_taken (Taken w) = true
is_taken Closed = false
is_taken Goal = false
is_taken (Dead b) = false

abbrev pub is_waiting : Status → Bool
is_waiting (Waiting h) = true
is_waiting (Taken w) = false
is_waiting Closed = false
is_waiting Goal = false
is_waiting (Dead b) = false

abbrev pub is_goal : Status → Bool
is_goal (Waiting h) = false
is_goal (Taken w) = false
is_goal Closed = false
is_goal Goal = true
is_goal (Dead b) = false

-- the first node with such a status
abbrev pub first_where : {S : Type 0} → (Status → Bool) → List (Node S) → Option ℕ
first_where p [] = None
first_where p (x ∷ nodes) = if p x.status then Some 0 else option_map suc (first_where p nodes)

-- how many have such a status
abbrev pub count : {S : Type 0} → (Status → Bool) → List (Node S) → ℕ
count p [] = 0
count p (x ∷ nodes) = (if p x.status then 1 else 0) + count p nodes

-- the answer where no goal is reached, no worker starved and no node is taken
abbrev pub when_idle : {S B : Type 0} → ℕ → List Event → Config S B → Option Answer
when_idle limit j c =
    elim c.full [
      | Some f ↦ Some (Filled f)
      | None ↦
          elim (first_where is_waiting c.nodes) [
            | Some n ↦ if nat_lt (count_takes j) limit then None else Some Expansions
            | None ↦ elim c.over [ Some p ↦ Some (answer.Over p.0 p.1) | None ↦ Some Exhausted ]
          ]
    ]

-- the first that applies: a goal node, a starved worker, a taken node (then there is no answer yet), a
-- lack of room, a waiting node, a site at which a number left its range
abbrev pub answer_of : {S B : Type 0} → ℕ → List Event → Config S B → Option Answer
answer_of limit j c =
    elim (first_where is_goal c.nodes) [
      | Some n ↦ Some (Plan n)
      | None ↦
          if has_starve j then Some Starved
          else elim (first_where is_taken c.nodes) [ Some n ↦ None | None ↦ when_idle limit j c ]
    ]

-- the actions from node 0 to node n, by the parents, with so many steps at most
abbrev pub path_within : {S : Type 0} → ℕ → List (Node S) → ℕ → List ℕ
path_within most nodes zero = []
path_within zero nodes (suc n) = []
path_within (suc most) nodes (suc n) =
    elim (slice_get nodes (suc n)) [
      | None ↦ []
      | Some x ↦ path_within most nodes x.parent ++ x.via ∷ []
    ]

-- the actions from node 0 to node n: a parent has a smaller number, so n steps are enough
abbrev pub path_to : {S : Type 0} → List (Node S) → ℕ → List ℕ
path_to nodes n = path_within n nodes n

-- the state in front of the others, where its status is Closed
abbrev pub if_closed : {S : Type 0} → Status → S → List S → List S
if_closed (Waiting h) s states = states
if_closed (Taken w) s states = states
if_closed Closed s states = s ∷ states
if_closed Goal s states = states
if_closed (Dead b) s states = states

-- the states of the closed nodes, in their order
abbrev pub closed_states : {S : Type 0} → List (Node S) → List S
closed_states [] = []
closed_states (x ∷ nodes) = if_closed x.status x.state (closed_states nodes)
