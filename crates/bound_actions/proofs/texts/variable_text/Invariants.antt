use Rattle.std.proofs.Common.{◌≡◌, ◌-◌, drop, length}
use Rattle.pddl_terms.specs.Texts.{variable_text}
use Rattle.static_facts.specs.Atoms.{names}
use Rattle.bound_actions.proofs.texts.variable_text.Given as goal

abbrev pub invariant-each : goal.invariant-each
invariant-each l =
    variable_text (drop l.place l.bound.params.now) (names l.bound.checked.now (drop l.place l.bound.objects.now)) l.name
    ≡ variable_text l.bound.params.now (names l.bound.checked.now l.bound.objects.now) l.name

abbrev pub decreases-each : goal.decreases-each
decreases-each l = length l.bound.params.now - l.place
