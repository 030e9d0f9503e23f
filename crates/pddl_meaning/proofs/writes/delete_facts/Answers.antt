use Rattle.std.proofs.Common.{◌+◌, ap, drop, ◌∙◌}
use Rattle.std.specs.FinSet as set
use Rattle.pddl_meaning.specs.Worlds.{WorldValue, text_cmp}
use Rattle.pddl_meaning.proofs.Written.{deleted_step, deleted_all}
use Rattle.pddl_meaning.proofs.writes.delete_facts.Goals as goal

pub each-preserved : goal.each-preserved
each-preserved c = (
  ap (λ (w : WorldValue). set.difference w.facts (set.from_list {R = text_cmp} (drop (c.each.text-index + 1) c.args.texts.now))) c.remove_fact.ensures
      ∙ deleted_step c.args.texts.now c.each.text-index c.as_slice.result.now c.text-item.result c.each.world.facts c.each-test.true (c.as_slice.ensures ∙ c.text-item.is)
      ∙ c.each.invariant.0,
  ap (λ (w : WorldValue). w.values) c.remove_fact.ensures ∙ c.each.invariant.1,
)

pub returns : goal.returns
returns c =
    let facts = deleted_all c.args.texts.now c.each.text-index c.each.world.facts _ c.each-test.false c.each.invariant.0 in
    λ i. record { facts = facts i; values = c.each.invariant.1 i }
