use Rattle.std.proofs.Common.{◌≡◌, ◌+◌, ℕ, List, arith, min, subst, sum}
use Rattle.ground_task.specs.declared.raw.GCond.{GCond}
use Rattle.simple_atoms.specs.declared.linear.TheConstants.{FAR}
use Rattle.subgoal.specs.Equations.{least_of}
use Rattle.subgoal.specs.Network.{picked, EvaluatesEach}
use Rattle.subgoal.proofs.Reading.{left_first, left_next, left_end, least_end, least_more, sum_more, read_True, read_False, read_Fact, read_Cmp, read_And, read_Or}
use Rattle.subgoal.proofs.Steps.{any_first}
use Rattle.subgoal.proofs.conditions.+values.Goals as goal

pub condition-returns-in-True : goal.condition-returns-in-True
condition-returns-in-True t c = read_True (picked c.args.reading.now.weights.now c.args.reading.now.numbers.now) c.args.at c.args.cond.now c.in-True.is

pub condition-returns-in-False : goal.condition-returns-in-False
condition-returns-in-False t c = read_False (picked c.args.reading.now.weights.now c.args.reading.now.numbers.now) c.args.at c.args.cond.now c.in-False.is

pub condition-returns-in-Fact : goal.condition-returns-in-Fact
condition-returns-in-Fact t c =
    read_Fact (picked c.args.reading.now.weights.now c.args.reading.now.numbers.now) c.args.at c.args.cond.now c.in-Fact.field-0 c.in-Fact.field-1 c.atom_at.result c.in-Fact.is c.atom_at.ensures

pub condition-returns-in-Cmp : goal.condition-returns-in-Cmp
condition-returns-in-Cmp t c =
    read_Cmp (picked c.args.reading.now.weights.now c.args.reading.now.numbers.now) c.args.at c.args.cond.now c.in-Cmp.field-0 c.in-Cmp.field-1 c.in-Cmp.field-2 c.atom_at-in-Cmp.result c.in-Cmp.is c.atom_at-in-Cmp.ensures

pub condition-returns-in-And : goal.condition-returns-in-And
condition-returns-in-And t c =
    let weights = picked c.args.reading.now.weights.now c.args.reading.now.numbers.now in
    read_And weights c.args.at c.args.cond.now c.in-And.conds c.all.result c.in-And.is
    (subst (λ (cs : List GCond). EvaluatesEach weights c.args.at cs (λ (ns : List ℕ). min FAR (sum ns)) c.all.result) c.as_slice.ensures c.all.ensures)

pub condition-returns-in-Or : goal.condition-returns-in-Or
condition-returns-in-Or t c =
    let weights = picked c.args.reading.now.weights.now c.args.reading.now.numbers.now in
    read_Or weights c.args.at c.args.cond.now c.in-Or.conds c.any.result c.in-Or.is
    (subst (λ (cs : List GCond). EvaluatesEach weights c.args.at cs least_of c.any.result) c.as_slice-in-Or.ensures c.any.ensures)

pub all-each-init : goal.all-each-init
all-each-init t c =
    record {
      left = left_first (picked c.args.reading.now.weights.now c.args.reading.now.numbers.now) c.args.at c.args.conds.now (λ (ns : List ℕ). min FAR (0 + sum ns)) (λ (ns : List ℕ). min FAR (sum ns)) (λ ns. omega arith);
      near = omega arith;
    }

pub all-each-preserved : goal.all-each-preserved
all-each-preserved t c =
    let n = c.condition-value.result.0 in
    record {
      left = left_next (picked c.args.reading.now.weights.now c.args.reading.now.numbers.now) c.args.at c.args.conds.now c.each.cond-index c.each.next c.cond-item.result c.cond-item.result c.condition-value.result
          (λ (ns : List ℕ). min FAR (c.each.total + sum ns)) (λ (ns : List ℕ). min FAR (c.together-total.result + sum ns)) (λ (ns : List ℕ). min FAR (sum ns))
          c.each-test.true c.cond-item.is c.condition-value.ensures
          (sum_more c.each.total n c.together-total.result c.together-total.ensures)
          c.each.invariant.left;
      near = omega (arith, c.together-total.ensures);
    }

pub all-returns : goal.all-returns
all-returns t c =
    left_end (picked c.args.reading.now.weights.now c.args.reading.now.numbers.now) c.args.at c.args.conds.now c.each.cond-index c.each.next c.each.total
    (λ (ns : List ℕ). min FAR (c.each.total + sum ns)) (λ (ns : List ℕ). min FAR (sum ns)) c.each-test.false (omega (arith, c.each.invariant.near)) c.each.invariant.left

pub any-each-init : goal.any-each-init
any-each-init t c =
    record {
      left = left_first (picked c.args.reading.now.weights.now c.args.reading.now.numbers.now) c.args.at c.args.conds.now (λ (ns : List ℕ). min FAR (least_of ns)) least_of any_first;
      near = omega arith;
    }

pub any-each-preserved : goal.any-each-preserved
any-each-preserved t c =
    let n = c.condition-value.result.0 in
    let least : c.min-least.result ≡ min c.each.least n = omega (arith, c.min-least.ensures) in
    record {
      left = left_next (picked c.args.reading.now.weights.now c.args.reading.now.numbers.now) c.args.at c.args.conds.now c.each.cond-index c.each.next c.cond-item.result c.cond-item.result c.condition-value.result
          (λ (ns : List ℕ). min c.each.least (least_of ns)) (λ (ns : List ℕ). min c.min-least.result (least_of ns)) least_of
          c.each-test.true c.cond-item.is c.condition-value.ensures
          (least_more c.each.least n c.min-least.result least)
          c.each.invariant.left;
      near = omega (arith, least, c.each.invariant.near);
    }

pub any-returns : goal.any-returns
any-returns t c =
    left_end (picked c.args.reading.now.weights.now c.args.reading.now.numbers.now) c.args.at c.args.conds.now c.each.cond-index c.each.next c.each.least
    (λ (ns : List ℕ). min c.each.least (least_of ns)) least_of c.each-test.false (least_end c.each.least c.each.invariant.near) c.each.invariant.left
