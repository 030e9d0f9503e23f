use Rattle.std.proofs.Common.{None, drop}
use Rattle.pddl_trees.specs.Actions.{clauses_from, no_clauses}
use Rattle.pddl_actions.specs.internal.ClauseSteps.{AreSameClauses, clauses_with}
use Rattle.pddl_actions.proofs.clauses.action_parts.Given as goal

abbrev pub invariant-each : goal.invariant-each
invariant-each l =
    AreSameClauses l.fn.notes.first (clauses_from l.text l.at None no_clauses l.trees) l.notes.first (clauses_with l.reading l.text l.at (drop l.tree-index l.trees))
