use Rattle.std.proofs.Common.{rules}
use Rattle.pddl_types.proofs.Found.{sig_within}
use Rattle.pddl_types.proofs.checked.Checked.predicate_number.Goals as goal

pub overflow_cast-result : goal.overflow_cast-result
overflow_cast-result c =
    let within = sig_within c.args.text.now c.self.inside.named.domain.predicates c.in-Some.number c.in-Some.ensures in
    let few = c.self.invariant.readable.domain.few_predicates in
    search rules
