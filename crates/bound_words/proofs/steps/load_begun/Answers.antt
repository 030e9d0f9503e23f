use Rattle.std.proofs.Common.{arith, ap, ◌∙◌}
use Rattle.bound_words.specs.Protocol.{concluded}
use Rattle.bound_words.proofs.Picks.{allows_conclude}
use Rattle.bound_words.proofs.steps.load_begun.Goals as goal

pub load-requires : goal.load-requires
load-requires g c = let fits = c.requires.fits in let size = fits.sized in (fits.table, omega arith, allows_conclude _ _ _ _ _ _ fits.seen_row.length_is c.requires.ready)

pub returns-clause-view : goal.returns-clause-view
returns-clause-view g c = c.load.ensures.2.0 ∙ ap (λ l. (concluded c.args.seat.now.me.0 c.load.result, l)) c.requires.fits.no_slot

pub returns-clause-latest : goal.returns-clause-latest
returns-clause-latest g c = c.load.ensures.2.1

pub returns-clause-sole : goal.returns-clause-sole
returns-clause-sole g c = c.load.ensures.2.2

pub returns-clause-least : goal.returns-clause-least
returns-clause-least g c = c.load.ensures.2.3

pub returns-clause-within : goal.returns-clause-within
returns-clause-within g c = c.load.ensures.2.4
