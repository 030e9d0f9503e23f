use Rattle.std.proofs.Common.{arith}
use Rattle.cert_reader.specs.Spelling.{facts_of_state}
use Rattle.cert_reader.proofs.InParts.{none_read, one_more_read, not_read, all_read}
use Rattle.cert_reader.proofs.InKinds.{state_facts_plain}
use Rattle.cert_reader.proofs.parts.state_facts.Goals as goal

pub each-init : goal.each-init
each-init c = none_read facts_of_state c.args.names.now c.args.line.now c.new-facts.result c.new-facts.ensures

pub each-preserved : goal.each-preserved
each-preserved c =
    one_more_read facts_of_state state_facts_plain c.args.names.now c.each.name-index c.name-item.result c.as_slice.result.now c.args.line.now c.each.facts c.push.new.self c.in-Some.found.0 c.each.rest.now c.in-Some.found.1.now
    (omega arith) c.name-item.is c.as_slice.ensures c.each.invariant c.in-Some.ensures c.in_ok-push-in-Some.ensures.ok

pub returns-in-None : goal.returns-in-None
returns-in-None c = not_read facts_of_state c.args.names.now c.each.name-index c.name-item.result c.as_slice.result.now c.args.line.now c.each.facts c.each.rest.now (omega arith) c.name-item.is c.as_slice.ensures c.each.invariant c.in-None.ensures

pub returns : goal.returns
returns c = all_read facts_of_state c.args.names.now c.each.name-index c.args.line.now c.each.facts c.each.rest.now (omega arith) c.each.invariant
