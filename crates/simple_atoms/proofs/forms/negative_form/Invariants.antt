use Rattle.std.proofs.Common.{◌≡◌, map, take}
use Rattle.num_ends.specs.Arithmetic.{negative_of}
use Rattle.simple_atoms.proofs.forms.negative_form.Given as goal

abbrev pub invariant-each : goal.invariant-each
invariant-each l = l.terms ≡ map (λ t. (t.0, negative_of t.1)) (take l.term-index l.form.terms)
