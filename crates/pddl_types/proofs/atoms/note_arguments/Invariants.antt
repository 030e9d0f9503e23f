use Rattle.std.proofs.Common.{◌≡◌, drop}
use Rattle.pddl_types.specs.Faults.{with_faults}
use Rattle.pddl_types.specs.UseFaults.{arguments_faults}
use Rattle.pddl_types.proofs.atoms.note_arguments.Given as goal

abbrev pub invariant-each : goal.invariant-each
invariant-each l =
    with_faults l.notes.first (arguments_faults l.scope.named.now l.scope.side l.scope.params.now l.wanted (drop l.arg-index l.args))
    ≡ with_faults l.initial.notes.first (arguments_faults l.scope.named.now l.scope.side l.scope.params.now l.initial.wanted l.args)
