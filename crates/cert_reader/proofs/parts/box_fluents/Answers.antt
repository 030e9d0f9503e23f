use Rattle.std.proofs.Common.{ℕ, List, ap, arith}
use Rattle.cert_reader.specs.Spelling.{fluents_of_box, fluents_of}
use Rattle.cert_reader.proofs.InParts.{none_read, one_more_read, not_read, all_read}
use Rattle.cert_reader.proofs.InTasks.{pair_here, pairs_within, pairs_over}
use Rattle.cert_reader.proofs.InKinds.{box_fluents_plain}
use Rattle.cert_reader.proofs.parts.box_fluents.Goals as goal

pub each-init : goal.each-init
each-init c = none_read (fluents_of_box c.args.version) (fluents_of c.args.task.now) c.args.line.now c.new-fluents.result c.new-fluents.ensures

pub each-preserved : goal.each-preserved
each-preserved c =
    one_more_read (fluents_of_box c.args.version) (box_fluents_plain c.args.version) (fluents_of c.args.task.now) c.each.fluent (c.index-names-fluent.result, c.places.result) (c.as_slice.result.now, c.places.result) c.args.line.now c.each.fluents c.push.new.self c.in-Some.found.0 c.each.rest.now c.in-Some.found.1.now
    (pairs_within c.args.names.now c.args.task.now.raw.fluents c.args.task.now.places c.each.fluent c.requires.names c.requires.placed (omega arith)) (pair_here c.args.names.now c.args.task.now.raw.fluents c.args.task.now.places c.each.fluent c.index-names-fluent.result c.places.result c.requires.names c.requires.placed (omega arith) c.index-names-fluent.is c.places.ensures.value) (ap (λ (n : List ℕ). (n, c.places.result)) c.as_slice.ensures) c.each.invariant c.in-Some.ensures c.in_ok-push-in-Some.ensures.ok

pub returns-in-None : goal.returns-in-None
returns-in-None c =
    not_read (fluents_of_box c.args.version) (fluents_of c.args.task.now) c.each.fluent (c.index-names-fluent.result, c.places.result) (c.as_slice.result.now, c.places.result) c.args.line.now c.each.fluents c.each.rest.now (pairs_within c.args.names.now c.args.task.now.raw.fluents c.args.task.now.places c.each.fluent c.requires.names c.requires.placed (omega arith)) (pair_here c.args.names.now c.args.task.now.raw.fluents c.args.task.now.places c.each.fluent c.index-names-fluent.result c.places.result c.requires.names c.requires.placed (omega arith) c.index-names-fluent.is c.places.ensures.value) (ap (λ (n : List ℕ). (n, c.places.result)) c.as_slice.ensures) c.each.invariant c.in-None.ensures

pub returns : goal.returns
returns c =
    all_read (fluents_of_box c.args.version) (fluents_of c.args.task.now) c.each.fluent c.args.line.now c.each.fluents c.each.rest.now (pairs_over c.args.names.now c.args.task.now.raw.fluents c.args.task.now.places c.each.fluent c.requires.names c.requires.placed (omega arith)) c.each.invariant
