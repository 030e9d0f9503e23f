use Rattle.std.proofs.Common.{◌≡◌, ◌<◌, ℕ, false, length, get_or, take}
use Rattle.ground_task.specs.Tasks.{is_listed}
use Rattle.ground_task.proofs.first.first_facts.Given as goal

abbrev pub invariant-each : goal.invariant-each
invariant-each l =
    (length l.facts.items ≡ l.count)
    × ((f : ℕ) → f < l.count → get_or l.facts.items f false ≡ is_listed (take l.fact-index l.listed) f)
