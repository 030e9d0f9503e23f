use Rattle.std.proofs.Common.{◌≡◌, drop}
use Rattle.simple_atoms.specs.Values.{number_in, weighted}
use Rattle.simple_atoms.proofs.atoms.sum_in.Given as goal

abbrev pub invariant-each : goal.invariant-each
invariant-each l =
    weighted (number_in l.task.places l.state) l.total (drop l.term-index l.terms) ≡ weighted (number_in l.task.places l.state) l.fn.start l.terms
