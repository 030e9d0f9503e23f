-- What the answer and the nodes of a search mean.
use Rattle.std.proofs.Common.{◌≡◌, ℕ, Option, Some, None, sym}
use Rattle.std.specs.Prelude.{IfSome}
use Rattle.ground_task.specs.States.{StateValue}
use Rattle.search_nodes.specs.Tables.{config_of}
use Rattle.search_runs.proofs.Holds.{Laws}
use Rattle.search_runs.proofs.Theorem.{answers_mean, statuses_are_right}
use Rattle.search_runs.specs.Spaces.{IsAt}
use Rattle.search_runs.specs.declared.answers.Answer.{Answer}
use Rattle.search_runs.specs.declared.nodes.Node.{Node}
use Rattle.search_turns.specs.Turns.{Turns, answer_in}
use Rattle.search_records.proofs.TaskLaws.{any_keeps, laws_of}
use Rattle.search_records.proofs.Meaning.{claims, right_status}
use Rattle.search_records.specs.Claims.{Claims}
use Rattle.search_records.specs.Nodes.{IsRightStatus}
use Rattle.search_core.specs.Searches.{IsSearch, space_in}
use Rattle.search_records.specs.Spaces.{AnyDead}

pub laws_in : (v : Turns) → IsSearch v → Laws (space_in v)
laws_in v is = laws_of AnyDead any_keeps v.table.task v.limit v.workers v.table.most is.placed is.room is.box_room

pub answers_claim : (v : Turns) (a : Answer) → IsSearch v → answer_in v ≡ Some a → Claims v.table.task v.limit v.table.most v.journal (config_of v.table) a
answers_claim v a is found =
    claims v.table.task v.limit v.workers v.table.most v.journal (config_of v.table) is.placed a
    (answers_mean (space_in v) (laws_in v is) v.journal (config_of v.table) is.run a found)

pub answer_claims : (v : Turns) (r : Option Answer) → IsSearch v → r ≡ answer_in v → IfSome r (Claims v.table.task v.limit v.table.most v.journal (config_of v.table))
answer_claims v None is found = tt
answer_claims v (Some a) is found = answers_claim v a is (sym found)

pub statuses_right : (v : Turns) (n : ℕ) (x : Node StateValue) → IsSearch v → IsAt v.table.nodes n x → IsRightStatus v.table.task v.workers v.table.boxes x.state x.status
statuses_right v n x is at =
    right_status v.table.task v.limit v.workers v.table.most v.journal (config_of v.table) v.table.boxes x.state x.status
    (statuses_are_right (space_in v) (laws_in v is) v.journal (config_of v.table) is.run n x at)
