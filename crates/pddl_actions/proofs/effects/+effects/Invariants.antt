use Rattle.std.proofs.Common.{◌≡◌, ◌+◌, ◌*◌, drop}
use Rattle.std.specs.Prelude.{fold}
use denote.Param.Weighed.{most}
use Rattle.sexp_text.proofs.trees.Tree.TheLaws.{the_size}
use Rattle.pddl_actions.specs.internal.EffectSteps.{with_effect}
use Rattle.pddl_trees.proofs.Noted.{with_faults_in, with_found}
use Rattle.pddl_actions.proofs.effects.+effects.Given as goal

abbrev pub decreases-effects : goal.decreases-effects
decreases-effects l = 3 * the_size l.tree.now

abbrev pub decreases-each_effects : goal.decreases-each_effects
decreases-each_effects l = 3 * most the_size l.parts.now + 1

abbrev pub decreases-list_effects : goal.decreases-list_effects
decreases-list_effects l = 3 * most the_size l.trees.now + 2

abbrev pub invariant-each_effects-each : goal.invariant-each_effects-each
invariant-each_effects-each l = record {
  gathered : fold (with_found with_effect (λ t. t.effects.found) l.text) l.gathered (drop l.tree-index l.parts)
      ≡ fold (with_found with_effect (λ t. t.effects.found) l.text) l.initial.gathered l.parts;
  faults : fold (with_faults_in (λ t. t.effects.faults) l.text) l.notes.first (drop l.tree-index l.parts)
      ≡ fold (with_faults_in (λ t. t.effects.faults) l.text) l.initial.notes.first l.parts;
}
