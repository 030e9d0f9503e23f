use Rattle.std.proofs.Common.{arith, ap, ◌∙◌}
use Rattle.bound_words.specs.Protocol.{marked}
use Rattle.bound_words.proofs.Picks.{allows_mark}
use Rattle.bound_words.proofs.steps.load_done.Goals as goal

pub load-requires : goal.load-requires
load-requires g c = let fits = c.requires.fits in let size = fits.sized in (fits.table, omega arith, allows_mark _ _ _ _ _ _ c.requires.few fits.some_place)

pub returns-clause-view : goal.returns-clause-view
returns-clause-view g c = c.load.ensures.2.0 ∙ ap (λ l. (marked c.args.seat.now.me.0 c.load.result, l)) c.requires.fits.no_slot

pub returns-clause-sole : goal.returns-clause-sole
returns-clause-sole g c = λ every. let e = c.load.ensures.2.1 every in let idle = c.requires.fits.idle in omega arith
