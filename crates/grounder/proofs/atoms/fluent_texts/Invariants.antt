use Rattle.std.proofs.Common.{◌≡◌, map, take}
use Rattle.static_facts.specs.Atoms.{text_of_atom}
use Rattle.grounder.specs.internal.Decoded.{fluent_of}
use Rattle.grounder.proofs.atoms.fluent_texts.Given as goal

abbrev pub invariant-each : goal.invariant-each
invariant-each l = l.texts.items ≡ map (λ n. text_of_atom (fluent_of l.checked n)) (take l.code-index l.codes)
