use Rattle.std.proofs.Common.{ap, sym, subst}
use Rattle.bound_words.specs.Rows.{IsBetween}
use Rattle.bound_words.proofs.Picks.{Mine}
use Rattle.bound_words.proofs.Between.{between-further}
use Rattle.bound_words.proofs.table.RelaxTable.join.Goals as goal

pub returns-clause-seat : goal.returns-clause-seat
returns-clause-seat g c = let t = g.S.System.terms c.args.self.now.table.shared.key.system.value in let start = c.args.self.now.table.shared.key.start.value in let a = c.requires.first in let b = c.requires.second in record {
  fitting = c.take_in.ensures.fits;
  room = a.room;
  start_row = a.start_row;
  between = subst (IsBetween t start) (sym (ap (λ (m : Mine). m.0.seen) c.take_in.ensures.view)) (between-further t start c.args.first.seat.me.0.seen c.args.second.seat.me.0.seen a.fitting.seen_row b.fitting.seen_row a.between b.between);
}
