use Rattle.std.proofs.Common.{rules, arith, ◌<◌, length, ap, sym, subst}
use Rattle.bound_words.specs.Rows.{IsBetween}
use Rattle.bound_words.proofs.Picks.{Mine}
use Rattle.bound_words.proofs.Between.{between-set}
use Rattle.bound_words.proofs.table.RelaxTable.peek.Goals as goal

pub returns-clause-seat : goal.returns-clause-seat
returns-clause-seat g c = let t = g.S.System.terms c.args.self.now.table.shared.key.system.value in let start = c.args.self.now.table.shared.key.start.value in let e = c.look-value.ensures in let s = c.requires.seat in
    let len = s.fitting.seen_row.length_is in let word = c.requires.word in let inside : c.args.word < length c.args.seat.seat.me.0.seen = omega arith in record {
      fitting = search rules;
      room = s.room;
      start_row = s.start_row;
      between = subst (IsBetween t start) (sym (ap (λ (m : Mine). m.0.seen) e.view)) (between-set t start c.args.seat.seat.me.0.seen c.args.word c.look-value.result inside s.between e.between);
    }
