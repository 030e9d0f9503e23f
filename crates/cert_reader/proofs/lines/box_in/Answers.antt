use Rattle.std.proofs.Common.{Some, None, refl, ap, ◌∙◌}
use Rattle.ground_task.specs.declared.raw.RawTask.{RawTask}
use Rattle.cert_reader.specs.Spelling.{facts_of_box, fluents_of_box, fluents_of}
use Rattle.cert_reader.proofs.InParts.{from_parsed}
use Rattle.cert_reader.proofs.InLines.{no_box_facts, no_box_fluents, more_than_box, not_empty}
use Rattle.cert_reader.proofs.lines.box_in.Goals as goal

pub returns-in_default-2 : goal.returns-in_default-2
returns-in_default-2 c =
    no_box_facts c.args.task.now c.raw.ensures.valid c.args.version c.args.line.now c.in-Some.parts.now c.in-Some.ensures
    (from_parsed (facts_of_box c.args.version) (λ r. (r.0, r.1.now)) c.as_slice.result.now c.args.task.now.raw.facts c.in-Some.parts.now c.in_ok-facts.field-0 None (c.as_slice.ensures ∙ ap (λ (raw : RawTask). raw.facts) c.raw.ensures.value) c.in_default-2.is c.in_ok-facts.ensures)

pub returns-in_default-3 : goal.returns-in_default-3
returns-in_default-3 c =
    no_box_fluents c.args.task.now c.raw.ensures.valid c.args.version c.args.line.now c.in-Some.parts.now c.in-Some.ensures c.in-Some-2.facts c.in-Some-2.rest.now
    (from_parsed (facts_of_box c.args.version) (λ r. (r.0, r.1.now)) c.as_slice.result.now c.args.task.now.raw.facts c.in-Some.parts.now c.in_ok-facts.field-0 (Some (c.in-Some-2.facts, c.in-Some-2.rest)) (c.as_slice.ensures ∙ ap (λ (raw : RawTask). raw.facts) c.raw.ensures.value) c.in-Some-2.is c.in_ok-facts.ensures)
    (from_parsed (fluents_of_box c.args.version) (λ r. (r.0, r.1.now)) (fluents_of c.args.task.now) (fluents_of c.args.task.now) c.in-Some-2.rest.now c.in_ok-fluents.field-0 None refl c.in_default-3.is c.in_ok-fluents.ensures)

pub returns-then-not-is_empty : goal.returns-then-not-is_empty
returns-then-not-is_empty c =
    more_than_box c.args.task.now c.raw.ensures.valid c.args.version c.args.line.now c.in-Some.parts.now c.in-Some.ensures c.in-Some-2.facts c.in-Some-2.rest.now
    (from_parsed (facts_of_box c.args.version) (λ r. (r.0, r.1.now)) c.as_slice.result.now c.args.task.now.raw.facts c.in-Some.parts.now c.in_ok-facts.field-0 (Some (c.in-Some-2.facts, c.in-Some-2.rest)) (c.as_slice.ensures ∙ ap (λ (raw : RawTask). raw.facts) c.raw.ensures.value) c.in-Some-2.is c.in_ok-facts.ensures)
    c.in-Some-3.fluents c.in-Some-3.end.now
    (from_parsed (fluents_of_box c.args.version) (λ r. (r.0, r.1.now)) (fluents_of c.args.task.now) (fluents_of c.args.task.now) c.in-Some-2.rest.now c.in_ok-fluents.field-0 (Some (c.in-Some-3.fluents, c.in-Some-3.end)) refl c.in-Some-3.is c.in_ok-fluents.ensures)
    (not_empty c.is_empty.result c.in-Some-3.end.now c.is_empty.ensures c.if-not-is_empty.true)
