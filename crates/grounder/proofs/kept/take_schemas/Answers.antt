use Rattle.std.proofs.Common.{◌≡◌, ◌<◌, Err, Some, arith, length, rules, ap, sym, ◌∙◌}
use Rattle.pddl_terms.specs.declared.actions.Schema.{Schema}
use Rattle.pddl_terms.specs.declared.files.Domain.{Domain}
use Rattle.grounder.proofs.Taking.{schema_next, schema_stopped, schema_there}
use Rattle.grounder.proofs.kept.take_schemas.Goals as goal

pub returns-in_err-take_schema-clause-stopped : goal.returns-in_err-take_schema-clause-stopped
returns-in_err-take_schema-clause-stopped c =
    let p = c.args.checked.now in
    let same = c.as_slice-schemas.ensures ∙ ap (λ (d : Domain). d.schemas) c.domain.ensures.domain in
    let many = ap (length {A = Schema}) same in
    let below : c.each.number < length p.domain.schemas = omega (arith, c.each-test.true, many) in
    let there = schema_there c.as_slice-schemas.result.now p.domain.schemas c.each.number c.index-schemas-number.result same below
    ∙ ap (λ (s : Schema). Some s) (sym c.index-schemas-number.is) in
    let is_err : c.from_residual.result ≡ Err c.in_err-take_schema.field-0.0 = search rules in
    rw is_err
    (schema_stopped p c.each.number _ c.args.actions.now.items c.each.actions.items c.in_err-take_schema.field-0.0 there c.each.invariant c.in_err-take_schema.ensures.stopped)

pub each-preserved : goal.each-preserved
each-preserved c =
    let p = c.args.checked.now in
    let same = c.as_slice-schemas.ensures ∙ ap (λ (d : Domain). d.schemas) c.domain.ensures.domain in
    let many = ap (length {A = Schema}) same in
    let below : c.each.number < length p.domain.schemas = omega (arith, c.each-test.true, many) in
    let there = schema_there c.as_slice-schemas.result.now p.domain.schemas c.each.number c.index-schemas-number.result same below
    ∙ ap (λ (s : Schema). Some s) (sym c.index-schemas-number.is) in
    schema_next p c.each.number _ c.args.actions.now.items c.each.actions.items c.take_schema.new.actions.items there c.each.invariant c.in_ok-take_schema.ensures.taken
