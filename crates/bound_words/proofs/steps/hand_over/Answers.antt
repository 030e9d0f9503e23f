use Rattle.std.proofs.Common.{sym, subst}
use Rattle.atomic_table.specs.Table.{Me, Splits}
use Rattle.bound_words.specs.declared.view.View.{View}
use Rattle.bound_words.specs.Protocol.{Kept, after_handing, handed}
use Rattle.bound_words.proofs.Sharing.{hands_over}
use Rattle.bound_words.proofs.steps.hand_over.Goals as goal

pub split_seat-requires : goal.split_seat-requires
split_seat-requires g c = let key = c.args.shared.now.key in let t = g.S.System.terms key.system.value in let s = c.args.seat.now in (
  c.requires.table.0,
  c.requires.table.1,
  subst (λ (m : Me (Unit {0}) View). Splits (Kept t key.start.value key.seats) s.id m.0 (after_handing m.0) (handed m.0)) (sym c.requires.fresh) (hands_over t key.start.value key.seats s.id s.me.0.seen s.me.0.places),
)
