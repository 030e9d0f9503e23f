use Rattle.std.proofs.Common.{rules}
use Rattle.pddl_types.proofs.Found.{schema_within}
use Rattle.pddl_types.proofs.checked.Checked.schema_number.Goals as goal

pub overflow_cast-result : goal.overflow_cast-result
overflow_cast-result c =
    let within = schema_within c.args.text.now c.self.inside.named.domain.schemas c.in-Some.number c.in-Some.ensures in
    let few = c.self.invariant.readable.domain.few_schemas in
    search rules
