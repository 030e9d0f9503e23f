use Rattle.bound_atoms.proofs.Seen.{fluent_value_seen}
use Rattle.bound_atoms.proofs.bound.FluentPattern.first_value.Goals as goal

pub returns : goal.returns
returns c =
    fluent_value_seen c.self.inside.checked.now c.self.inside.statics.now c.self.inside.params.now c.self.inside.atom.now c.self.inside.slots c.args.objects.now c.args.self.now c.self.view_is
    c.requires.as_many c.requires.known c.first_value.result c.self.invariant c.first_value.ensures
