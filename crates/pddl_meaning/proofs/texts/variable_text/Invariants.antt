use Rattle.std.proofs.Common.{◌≡◌, ◌-◌, drop, length}
use Rattle.pddl_terms.specs.Texts.{variable_text}
use Rattle.pddl_meaning.proofs.texts.variable_text.Given as goal

abbrev pub invariant-each : goal.invariant-each
invariant-each l = variable_text (drop l.place l.params) (drop l.place l.args) l.name ≡ variable_text l.params l.args l.name

abbrev pub decreases-each : goal.decreases-each
decreases-each l = length l.params - l.place
