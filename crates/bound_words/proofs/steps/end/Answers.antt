use Rattle.std.proofs.Common.{arith, ap, ◌∙◌}
use Rattle.bound_words.specs.Protocol.{ended}
use Rattle.bound_words.proofs.Picks.{allows_end}
use Rattle.bound_words.proofs.steps.end.Goals as goal

pub fetch_add-requires : goal.fetch_add-requires
fetch_add-requires g c = let size = c.requires.table.1 in (c.requires.table.0, omega arith, allows_end _ _ _ _ _ _ c.requires.busy.0)

pub returns-clause-view : goal.returns-clause-view
returns-clause-view g c = c.fetch_add.ensures.2 ∙ ap (λ l. (ended c.args.seat.now.me.0, l)) c.requires.busy.1
