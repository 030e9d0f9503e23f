use Rattle.std.proofs.Common.{◌≡◌, ◌++◌, drop, map}
use Rattle.pddl_types.specs.Pairs.{written_text}
use Rattle.pddl_types.proofs.entries.push_arguments.Given as goal

abbrev pub invariant-each : goal.invariant-each
invariant-each l = map (λ t. t.now) l.texts.items ++ map written_text (drop l.arg-index l.args) ≡ map (λ t. t.now) l.initial.texts.items ++ map written_text l.args
