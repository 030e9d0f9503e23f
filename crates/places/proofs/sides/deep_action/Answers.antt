use Rattle.std.proofs.Common.{◌<◌, List, ap, arith, get_or, length, sym, ◌∙◌}
use Rattle.std.proofs.lemmas.Option.{slice_get-get_or}
use Rattle.ground_task.specs.declared.raw.Ground.{Ground}
use Rattle.places.proofs.Suited.{few_more, read_action}
use Rattle.places.proofs.sides.deep_action.Goals as goal

pub returns-then-not-has_few_in_condition-clause-some : goal.returns-then-not-has_few_in_condition-clause-some
returns-then-not-has_few_in_condition-clause-some c =
    let a = c.index-as_slice-number.result in
    let below : c.each.number < length c.args.raw.now.actions = omega (arith, c.each-test.true) in
    let is = c.index-as_slice-number.is ∙ ap (λ (xs : List Ground). get_or xs c.each.number a) c.as_slice.ensures in
    record {
      action = a;
      is = read_action c.args.raw.now c.each.number a below is;
      deep = sym c.if-not-has_few_in_condition.ensures;
      first = λ earlier other. c.each.invariant earlier other;
    }

pub each-preserved : goal.each-preserved
each-preserved c =
    let a = c.index-as_slice-number.result in
    let below : c.each.number < length c.args.raw.now.actions = omega (arith, c.each-test.true) in
    let is = c.index-as_slice-number.is ∙ ap (λ (xs : List Ground). get_or xs c.each.number a) c.as_slice.ensures in
    few_more c.args.raw.now c.args.counts.now c.each.number a below is c.each.invariant (sym c.if-not-has_few_in_condition.ensures)

pub returns-clause-none : goal.returns-clause-none
returns-clause-none c = λ k d below.
    c.each.invariant k (get_or c.args.raw.now.actions k d) (omega (arith, below, c.each-test.false)) (slice_get-get_or c.args.raw.now.actions k d below)
