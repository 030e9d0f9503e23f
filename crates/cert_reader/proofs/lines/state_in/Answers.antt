use Rattle.std.proofs.Common.{ℤ, List, length, All, Some, None, refl, sym, ap, subst, ◌∙◌}
use Rattle.num_ends.specs.Decimal.{InRange}
use Rattle.ground_task.specs.declared.raw.RawTask.{RawTask}
use Rattle.cert_reader.specs.Spelling.{facts_of_state, fluents_of_state, fluents_of}
use Rattle.cert_reader.proofs.InParts.{from_parsed}
use Rattle.cert_reader.proofs.InTasks.{as_many, as_many_pairs, numbers_in_range}
use Rattle.cert_reader.proofs.InLines.{no_state_facts, no_numbers, more_than_state, not_empty}
use Rattle.cert_reader.proofs.lines.state_in.Goals as goal

pub returns-in_default-2 : goal.returns-in_default-2
returns-in_default-2 c =
    no_state_facts c.args.task.now c.raw.ensures.valid c.args.line.now c.in-Some.parts.now c.in-Some.ensures
    (from_parsed (facts_of_state) (λ r. (r.0, r.1.now)) c.as_slice.result.now c.args.task.now.raw.facts c.in-Some.parts.now c.in_ok-facts.field-0 None (c.as_slice.ensures ∙ ap (λ (raw : RawTask). raw.facts) c.raw.ensures.value) c.in_default-2.is c.in_ok-facts.ensures)

pub returns-in_default-3 : goal.returns-in_default-3
returns-in_default-3 c =
    no_numbers c.args.task.now c.raw.ensures.valid c.args.line.now c.in-Some.parts.now c.in-Some.ensures c.in-Some-2.facts c.in-Some-2.rest.now
    (from_parsed (facts_of_state) (λ r. (r.0, r.1.now)) c.as_slice.result.now c.args.task.now.raw.facts c.in-Some.parts.now c.in_ok-facts.field-0 (Some (c.in-Some-2.facts, c.in-Some-2.rest)) (c.as_slice.ensures ∙ ap (λ (raw : RawTask). raw.facts) c.raw.ensures.value) c.in-Some-2.is c.in_ok-facts.ensures)
    (from_parsed (fluents_of_state) (λ r. (r.0, r.1.now)) (fluents_of c.args.task.now) (fluents_of c.args.task.now) c.in-Some-2.rest.now c.in_ok-numbers.field-0 None refl c.in_default-3.is c.in_ok-numbers.ensures)

pub returns-then-not-is_empty : goal.returns-then-not-is_empty
returns-then-not-is_empty c =
    more_than_state c.args.task.now c.raw.ensures.valid c.args.line.now c.in-Some.parts.now c.in-Some.ensures c.in-Some-2.facts c.in-Some-2.rest.now
    (from_parsed (facts_of_state) (λ r. (r.0, r.1.now)) c.as_slice.result.now c.args.task.now.raw.facts c.in-Some.parts.now c.in_ok-facts.field-0 (Some (c.in-Some-2.facts, c.in-Some-2.rest)) (c.as_slice.ensures ∙ ap (λ (raw : RawTask). raw.facts) c.raw.ensures.value) c.in-Some-2.is c.in_ok-facts.ensures)
    c.in-Some-3.numbers c.in-Some-3.end.now
    (from_parsed (fluents_of_state) (λ r. (r.0, r.1.now)) (fluents_of c.args.task.now) (fluents_of c.args.task.now) c.in-Some-2.rest.now c.in_ok-numbers.field-0 (Some (c.in-Some-3.numbers, c.in-Some-3.end)) refl c.in-Some-3.is c.in_ok-numbers.ensures)
    (not_empty c.is_empty.result c.in-Some-3.end.now c.is_empty.ensures c.if-not-is_empty.true)

pub of-requires-clause-a_truth_each : goal.of-requires-clause-a_truth_each
of-requires-clause-a_truth_each c =
    ap length c.as_slice-3.ensures ∙ as_many facts_of_state c.args.task.now.raw.facts c.in-Some-2.facts c.in-Some.parts.now c.in-Some-2.rest.now
    (from_parsed (facts_of_state) (λ r. (r.0, r.1.now)) c.as_slice.result.now c.args.task.now.raw.facts c.in-Some.parts.now c.in_ok-facts.field-0 (Some (c.in-Some-2.facts, c.in-Some-2.rest)) (c.as_slice.ensures ∙ ap (λ (raw : RawTask). raw.facts) c.raw.ensures.value) c.in-Some-2.is c.in_ok-facts.ensures).0

pub of-requires-clause-a_number_each : goal.of-requires-clause-a_number_each
of-requires-clause-a_number_each c =
    ap length c.as_slice-4.ensures ∙ as_many fluents_of_state (fluents_of c.args.task.now) c.in-Some-3.numbers c.in-Some-2.rest.now c.in-Some-3.end.now
    (from_parsed (fluents_of_state) (λ r. (r.0, r.1.now)) (fluents_of c.args.task.now) (fluents_of c.args.task.now) c.in-Some-2.rest.now c.in_ok-numbers.field-0 (Some (c.in-Some-3.numbers, c.in-Some-3.end)) refl c.in-Some-3.is c.in_ok-numbers.ensures).0
    ∙ as_many_pairs c.args.task.now.raw.fluents c.args.task.now.places c.raw.ensures.placed.a_count_each

pub of-requires-clause-in_range : goal.of-requires-clause-in_range
of-requires-clause-in_range c =
    subst (λ (ns : List ℤ). All InRange ns) (sym c.as_slice-4.ensures)
    (numbers_in_range (fluents_of c.args.task.now) c.in-Some-3.numbers c.in-Some-2.rest.now c.in-Some-3.end.now
    (from_parsed (fluents_of_state) (λ r. (r.0, r.1.now)) (fluents_of c.args.task.now) (fluents_of c.args.task.now) c.in-Some-2.rest.now c.in_ok-numbers.field-0 (Some (c.in-Some-3.numbers, c.in-Some-3.end)) refl c.in-Some-3.is c.in_ok-numbers.ensures).0)
