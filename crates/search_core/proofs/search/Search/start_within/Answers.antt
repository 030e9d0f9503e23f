use Rattle.std.proofs.Common.{arith}
use Rattle.dead_ends.specs.Reachable.{initial_state}
use Rattle.search_core.proofs.Alone.{plain_start}
use Rattle.search_core.proofs.Events.{begun, started_search}
use Rattle.search_records.proofs.TaskLaws.{any_keeps}
use Rattle.search_core.proofs.TaskLaws.{fits_view}
use Rattle.search_records.specs.Spaces.{AnyDead}
use Rattle.search_core.proofs.search.Search.start_within.Goals as goal

pub start-requires-clause-fits : goal.start-requires-clause-fits
start-requires-clause-fits c = fits_view AnyDead any_keeps c.args.task (initial_state c.args.task) c.args.view c.requires.right

pub invariant_of-result : goal.invariant_of-result
invariant_of-result c =
    started_search c.args.task c.args.limit c.args.workers c.args.most c.args.view c.in_ok-turns.turns c.raw-raw.ensures.placed (omega (arith, c.raw-raw.ensures.valid.few_actions)) c.requires.room c.requires.box_room c.requires.right c.in_ok-turns.ensures

pub returns-clause-begun : goal.returns-clause-begun
returns-clause-begun c = begun c.args.task c.args.limit c.args.workers c.args.most c.args.view c.in_ok-turns.turns c.in_ok-turns.ensures

pub returns-clause-plain : goal.returns-clause-plain
returns-clause-plain c = λ one right. plain_start c.args.task c.args.limit c.args.workers c.args.most c.args.view c.in_ok-turns.turns one right c.in_ok-turns.ensures
