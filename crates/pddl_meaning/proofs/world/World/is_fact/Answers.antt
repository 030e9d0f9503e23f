use Rattle.std.proofs.Common.{sym, ap, ◌∙◌}
use Rattle.std.specs.FinSet as set
use Rattle.pddl_meaning.specs.Worlds.{WorldValue}
use Rattle.pddl_meaning.proofs.Keys.{members}
use Rattle.pddl_meaning.proofs.world.World.is_fact.Goals as goal

pub returns : goal.returns
returns c =
    c.contains.ensures ∙ sym (members (λ v. v.items) c.self.inside.facts.keys c.args.text.now)
    ∙ ap (λ (w : WorldValue). set.contains w.facts c.args.text.now) c.self.view_is
