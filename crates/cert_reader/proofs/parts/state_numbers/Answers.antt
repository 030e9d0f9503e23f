use Rattle.std.proofs.Common.{ℕ, List, ap, arith}
use Rattle.cert_reader.specs.Spelling.{fluents_of_state, fluents_of}
use Rattle.cert_reader.proofs.InParts.{none_read, one_more_read, not_read, all_read}
use Rattle.cert_reader.proofs.InTasks.{pair_here, pairs_within, pairs_over}
use Rattle.cert_reader.proofs.InKinds.{state_fluents_plain}
use Rattle.cert_reader.proofs.parts.state_numbers.Goals as goal

pub each-init : goal.each-init
each-init c = none_read fluents_of_state (fluents_of c.args.task.now) c.args.line.now c.new-numbers.result c.new-numbers.ensures

pub each-preserved : goal.each-preserved
each-preserved c =
    one_more_read fluents_of_state state_fluents_plain (fluents_of c.args.task.now) c.each.fluent (c.index-names-fluent.result, c.places.result) (c.as_slice.result.now, c.places.result) c.args.line.now c.each.numbers c.push_number.new.numbers c.in-Some.found.0.n c.each.rest.now c.in-Some.found.1.now
    (pairs_within c.args.names.now c.args.task.now.raw.fluents c.args.task.now.places c.each.fluent c.requires.names c.requires.placed (omega arith)) (pair_here c.args.names.now c.args.task.now.raw.fluents c.args.task.now.places c.each.fluent c.index-names-fluent.result c.places.result c.requires.names c.requires.placed (omega arith) c.index-names-fluent.is c.places.ensures.value) (ap (λ (n : List ℕ). (n, c.places.result)) c.as_slice.ensures) c.each.invariant c.in-Some.ensures c.in_ok-push_number-in-Some.ensures

pub returns-in-None : goal.returns-in-None
returns-in-None c =
    not_read fluents_of_state (fluents_of c.args.task.now) c.each.fluent (c.index-names-fluent.result, c.places.result) (c.as_slice.result.now, c.places.result) c.args.line.now c.each.numbers c.each.rest.now (pairs_within c.args.names.now c.args.task.now.raw.fluents c.args.task.now.places c.each.fluent c.requires.names c.requires.placed (omega arith)) (pair_here c.args.names.now c.args.task.now.raw.fluents c.args.task.now.places c.each.fluent c.index-names-fluent.result c.places.result c.requires.names c.requires.placed (omega arith) c.index-names-fluent.is c.places.ensures.value) (ap (λ (n : List ℕ). (n, c.places.result)) c.as_slice.ensures) c.each.invariant c.in-None.ensures

pub returns : goal.returns
returns c =
    all_read fluents_of_state (fluents_of c.args.task.now) c.each.fluent c.args.line.now c.each.numbers c.each.rest.now (pairs_over c.args.names.now c.args.task.now.raw.fluents c.args.task.now.places c.each.fluent c.requires.names c.requires.placed (omega arith)) c.each.invariant
