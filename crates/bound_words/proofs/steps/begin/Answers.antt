use Rattle.std.proofs.Common.{arith, ap, ◌∙◌}
use Rattle.bound_words.specs.Protocol.{begun}
use Rattle.bound_words.proofs.Picks.{allows_begin}
use Rattle.bound_words.proofs.steps.begin.Goals as goal

pub fetch_add-requires : goal.fetch_add-requires
fetch_add-requires g c = let fits = c.requires.fits in let size = fits.sized in (fits.table, omega arith, allows_begin _ _ _ _ _ _ fits.idle c.requires.few)

pub returns-clause-view : goal.returns-clause-view
returns-clause-view g c = (c.fetch_add.result, c.fetch_add.ensures.2.1, c.fetch_add.ensures.2.0 ∙ ap (λ l. (begun c.args.seat.now.me.0 c.fetch_add.result, l)) c.requires.fits.no_slot)
