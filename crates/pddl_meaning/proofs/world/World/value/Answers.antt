use Rattle.std.proofs.Common.{sym, ap, ◌∙◌}
use Rattle.std.specs.FinMap as finite
use Rattle.pddl_meaning.specs.Worlds.{WorldValue}
use Rattle.pddl_meaning.proofs.Keys.{found}
use Rattle.pddl_meaning.proofs.world.World.value.Goals as goal

pub returns-in-Some : goal.returns-in-Some
returns-in-Some c =
    c.in-Some.ensures.value ∙ sym (found (λ v. v.items) c.self.inside.values.entries c.args.text.now)
    ∙ ap (λ (w : WorldValue). finite.get w.values c.args.text.now) c.self.view_is

pub returns-in-None : goal.returns-in-None
returns-in-None c =
    c.in-None.ensures.value ∙ sym (found (λ v. v.items) c.self.inside.values.entries c.args.text.now)
    ∙ ap (λ (w : WorldValue). finite.get w.values c.args.text.now) c.self.view_is
