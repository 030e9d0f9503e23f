use Rattle.std.specs.FinSet as set
use Rattle.pddl_meaning.proofs.Keys.{set_inserted}
use Rattle.pddl_meaning.proofs.Views.{changed_facts}
use Rattle.pddl_meaning.proofs.world.World.add_fact.Goals as goal

pub returns-clause-ok : goal.returns-clause-ok
returns-clause-ok c =
    changed_facts _ _ c.self.view_is _ (λ s. set.insert s c.args.text.items)
    (set_inserted (λ v. v.items) c.self.inside.facts.keys c.insert.new.self.keys c.args.text.items c.in_ok-insert.ensures.updates.1 c.in_ok-insert.ensures.updates.3)
