use Rattle.std.proofs.Common.{sym, ap, ◌∙◌, rules}
use Rattle.std.specs.FinMap as finite
use Rattle.pddl_meaning.specs.Worlds.{WorldValue}
use Rattle.pddl_meaning.proofs.Keys.{found, map_inserted}
use Rattle.pddl_meaning.proofs.Views.{changed_values}
use Rattle.pddl_meaning.proofs.world.World.set_value.Goals as goal

pub returns-in_err-insert-clause-absent : goal.returns-in_err-insert-clause-absent
returns-in_err-insert-clause-absent c =
    let absent = sym (ap (λ (w : WorldValue). finite.get w.values c.args.text.items) c.self.view_is) ∙ found (λ v. v.items) c.self.inside.values.entries c.args.text.items ∙ c.in_err-insert.ensures.absent in
    search rules

pub returns-clause-ok : goal.returns-clause-ok
returns-clause-ok c =
    changed_values _ _ c.self.view_is _ (λ m. finite.insert m c.args.text.items c.args.value)
    (map_inserted (λ v. v.items) c.self.inside.values.entries c.insert.new.self.entries c.args.text.items c.args.value c.in_ok-insert.ensures.updates.1 c.in_ok-insert.ensures.updates.3)
