use Rattle.std.proofs.Common.{◌≡◌, map, take}
use Rattle.ground_meaning.specs.Tasks.{first_value}
use Rattle.grounder.specs.internal.Decoded.{fluent_of}
use Rattle.grounder.proofs.atoms.first_values.Given as goal

abbrev pub invariant-each : goal.invariant-each
invariant-each l = l.values.items ≡ map (λ n. first_value l.statics (fluent_of l.statics n)) (take l.code-index l.codes)
