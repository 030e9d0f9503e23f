use Rattle.std.proofs.Common.{arith}
use Rattle.ground_task.proofs.StateRows.{fact_added, fact_within, is_row, view_of, words_of}
use Rattle.ground_task.proofs.row.Row.add_fact.Goals as goal

pub index_mut-requires : goal.index_mut-requires
index_mut-requires c =
    let r = c.self.inside in
    let are = words_of r.words.items r.facts r.values r.is_wide c.args.self.now c.self.invariant c.self.view_is in
    omega (arith, r.words.ok.0, fact_within r.words.items r.facts r.values r.is_wide c.args.self.now are c.args.number c.requires.known)

pub invariant_of-self : goal.invariant_of-self
invariant_of-self c =
    let r = c.self.inside in
    let are = words_of r.words.items r.facts r.values r.is_wide c.args.self.now c.self.invariant c.self.view_is in
    is_row _ _ _ _ _ (fact_added r.words.items r.facts r.values r.is_wide c.args.self.now are c.args.number _ c.requires.known c.index_mut.ensures.value)

pub returns : goal.returns
returns c =
    let r = c.self.inside in
    let are = words_of r.words.items r.facts r.values r.is_wide c.args.self.now c.self.invariant c.self.view_is in
    view_of _ _ _ _ _ (fact_added r.words.items r.facts r.values r.is_wide c.args.self.now are c.args.number _ c.requires.known c.index_mut.ensures.value)
