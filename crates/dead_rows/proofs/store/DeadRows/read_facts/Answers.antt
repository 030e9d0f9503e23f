use Rattle.std.proofs.Common.{rules, ◌∙◌}
use Rattle.box_words.specs.Words.{fact_at}
use Rattle.dead_rows.specs.Seats.{row_words}
use Rattle.dead_rows.proofs.Steps.{read_fact, filled}
use Rattle.dead_rows.proofs.store.DeadRows.read_facts.Goals as goal

pub facts-preserved : goal.facts-preserved
facts-preserved c = let inv = c.facts.invariant in let row = c.args.row in let f = c.facts.fact in record {
  seat = c.word.ensures.seat;
  view = c.word.ensures.view ∙ inv.view;
  count = search rules;
  room = search rules;
  read = filled (fact_at (row_words c.args.seat.now row)) c.facts.facts.items c.push_reserved.new.self.items f c.may_of.result inv.read
      (read_fact c.args.seat.now.me.0 c.facts.seat.me.0 row f c.word.result c.may_of.result inv.view c.word.ensures.word c.may_of.ensures) c.push_reserved.ensures.items;
}
