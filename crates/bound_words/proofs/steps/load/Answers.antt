use Rattle.std.proofs.Common.{arith, refl, ap, ◌∙◌}
use Rattle.bound_words.specs.Protocol.{loaded}
use Rattle.bound_words.proofs.Picks.{allows_load}
use Rattle.bound_words.proofs.steps.load.Goals as goal

pub overflow_add-word : goal.overflow_add-word
overflow_add-word g c = let fits = c.requires.fits in let few = fits.few_words in let h = c.requires.word in omega arith

pub load-requires : goal.load-requires
load-requires g c = let fits = c.requires.fits in let size = fits.sized in let h = c.requires.word in (fits.table, omega arith, allows_load _ _ _ _ _ _ _ h fits.seen_row.length_is c.requires.next)

pub returns-clause-view : goal.returns-clause-view
returns-clause-view g c = let e = (c.load.ensures.2 c.args.word refl).0 in e ∙ ap (λ l. (loaded c.args.seat.now.me.0 c.args.word c.load.result, l)) c.requires.fits.no_slot

pub returns-clause-past : goal.returns-clause-past
returns-clause-past g c = (c.load.ensures.2 c.args.word refl).1
