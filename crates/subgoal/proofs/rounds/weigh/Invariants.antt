use Rattle.subgoal.specs.Help.{atoms_in}
use Rattle.subgoal.specs.Network.{weights_by}
use Rattle.subgoal.proofs.Improving.{AreWeighed}
use Rattle.subgoal.proofs.rounds.weigh.Given as goal

abbrev pub invariant-each : goal.invariant-each
invariant-each l =
    AreWeighed (weights_by (atoms_in l.view.task.now l.view.state.now) l.view.task.now.raw.actions l.view.values.now l.atoms) l.fn.weights.items l.i l.weights.items
