-- How many supporters a task has: the single demands that its actions can make on a box.
use Rattle.std.specs.Prelude.{ℕ, ◌+◌, ◌*◌, ◌==◌, List, ◌++◌, length}
use Rattle.std.specs.List.{sum_by}
use Rattle.std.specs.Set.{unique_keys}
use Rattle.ground_task.specs.declared.raw.Ground.{Ground}
use Rattle.ground_task.specs.Tasks.{TaskValue}

-- the facts that an action adds or deletes, each once
abbrev pub changed_facts : Ground → List ℕ
changed_facts a = unique_keys (λ f g. f == g) (a.adds ++ a.dels)

-- one for each fact that the action changes, and two for each numeric effect: one for either end
abbrev pub supporters_of : Ground → ℕ
supporters_of a = length (changed_facts a) + 2 * length a.nums

-- those of all actions
abbrev pub supporter_count : TaskValue → ℕ
supporter_count t = sum_by supporters_of t.raw.actions
