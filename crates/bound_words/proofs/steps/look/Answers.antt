use Rattle.std.proofs.Common.{arith, refl, ap, ◌∙◌}
use Rattle.bound_words.specs.Protocol.{looked}
use Rattle.bound_words.proofs.Picks.{allows_look}
use Rattle.bound_words.proofs.steps.look.Goals as goal

pub overflow_add-word : goal.overflow_add-word
overflow_add-word g c = let fits = c.requires.fits in let few = fits.few_words in let h = c.requires.word in omega arith

pub load-requires : goal.load-requires
load-requires g c = let fits = c.requires.fits in let size = fits.sized in let h = c.requires.word in (fits.table, omega arith, allows_look _ _ _ _ _ _ _ h fits.seen_row.length_is)

pub returns-clause-view : goal.returns-clause-view
returns-clause-view g c = let e = (c.load.ensures.2 c.args.word refl).0 in e ∙ ap (λ l. (looked c.args.seat.now.me.0 c.args.word c.load.result, l)) c.requires.fits.no_slot

pub returns-clause-past : goal.returns-clause-past
returns-clause-past g c = (c.load.ensures.2 c.args.word refl).1

pub returns-clause-between : goal.returns-clause-between
returns-clause-between g c = (c.load.ensures.2 c.args.word refl).2

pub returns-clause-settled : goal.returns-clause-settled
returns-clause-settled g c = (c.load.ensures.2 c.args.word refl).3
