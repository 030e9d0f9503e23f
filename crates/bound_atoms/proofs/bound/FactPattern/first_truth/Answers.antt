use Rattle.bound_atoms.proofs.Seen.{fact_truth_seen}
use Rattle.bound_atoms.proofs.bound.FactPattern.first_truth.Goals as goal

pub returns : goal.returns
returns c =
    fact_truth_seen c.self.inside.checked.now c.self.inside.statics.now c.self.inside.params.now c.self.inside.atom.now c.self.inside.slots c.args.objects.now c.args.self.now c.self.view_is
    c.requires.as_many c.requires.known c.first_truth.result c.self.invariant c.first_truth.ensures
