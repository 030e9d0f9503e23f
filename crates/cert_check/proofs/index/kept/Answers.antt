use Rattle.std.proofs.Common.{◌∙◌, arith}
use Rattle.std.proofs.lemmas.List.{take_all}
use Rattle.cert_check.proofs.Listed.{one_kept}
use Rattle.cert_check.proofs.index.kept.Goals as goal

pub each-preserved : goal.each-preserved
each-preserved c =
    one_kept c.each.kept c.push_copy.new.boxes c.args.boxes.now c.each.own-index c.own-item.result (omega arith) c.own-item.is c.each.invariant c.in_ok-push_copy.ensures

pub returns : goal.returns
returns c = c.each.invariant ∙ take_all c.each.own-index c.args.boxes.now (omega arith)
