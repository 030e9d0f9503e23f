use Rattle.std.proofs.Common.{arith}
use Rattle.ground_task.proofs.StateRows.{fact_within, tested_fact, words_of}
use Rattle.ground_task.proofs.row.Row.fact.Goals as goal

pub index-requires : goal.index-requires
index-requires c =
    let r = c.self.inside in
    let are = words_of r.words.items r.facts r.values r.is_wide c.args.self.now c.self.invariant c.self.view_is in
    omega (arith, r.words.ok.0, fact_within r.words.items r.facts r.values r.is_wide c.args.self.now are c.args.number c.requires.known)

pub returns : goal.returns
returns c =
    let r = c.self.inside in
    let are = words_of r.words.items r.facts r.values r.is_wide c.args.self.now c.self.invariant c.self.view_is in
    tested_fact r.words.items r.facts r.values r.is_wide c.args.self.now are c.args.number c.index.result.now c.requires.known c.index.ensures
