use Rattle.std.specs.FinSet as set
use Rattle.pddl_meaning.proofs.Keys.{set_removed}
use Rattle.pddl_meaning.proofs.Views.{changed_facts}
use Rattle.pddl_meaning.proofs.world.World.remove_fact.Goals as goal

pub returns : goal.returns
returns c =
    changed_facts _ _ c.self.view_is _ (λ s. set.remove s c.args.text.now)
    (set_removed (λ v. v.items) c.self.inside.facts.keys c.remove.new.self.keys c.args.text.now c.remove.ensures.updates.1 c.remove.ensures.updates.3)
