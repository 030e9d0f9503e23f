use Rattle.std.proofs.Common.{List, ◌+◌, ◌-◌, length, take, ◌++◌, Some, ap, ◌∙◌, arith, drop, inl, inr}
use Rattle.simple_atoms.specs.Forms.{Term, merged}
use Rattle.simple_atoms.proofs.Loops.{after, first_comes, second_comes, merged_end}
use Rattle.simple_atoms.proofs.forms.merge.Goals as goal
use Rattle.simple_atoms.proofs.forms.merge.Goals.{then-front-test+else-j-right, else-front-test}

pub front-preserved-then-one-other : goal.front-preserved-then-one-other
front-preserved-then-one-other c = record {
  whole =
      ap (λ (ts : List Term). after ts (merged (drop (c.front.i + 1) c.args.left.now) (drop c.front.j c.args.right.now))) c.in_ok-push.ensures.ok
      ∙ first_comes c.args.left.now c.args.right.now c.front.i c.front.j c.index-left-i.result c.index-right-j.result c.index-left-i.result c.index-right-j.result c.front.terms c.front-test.true c.index-left-i.is c.if-j-right.true c.index-right-j.is c.if-one-other.true
      ∙ c.front.invariant.whole;
  first = omega arith;
  second = omega arith;
}

pub front-preserved-then-other-one : goal.front-preserved-then-other-one
front-preserved-then-other-one c = record {
  whole =
      ap (λ (ts : List Term). after ts (merged (drop c.front.i c.args.left.now) (drop (c.front.j + 1) c.args.right.now))) c.in_ok-push-2.ensures.ok
      ∙ second_comes c.args.left.now c.args.right.now c.front.i c.front.j c.index-left-i.result c.index-right-j.result c.index-left-i.result c.index-right-j.result c.front.terms c.front-test.true c.index-left-i.is c.if-j-right.true c.index-right-j.is c.if-other-one.true
      ∙ c.front.invariant.whole;
  first = omega arith;
  second = omega arith;
}

pub returns : goal.returns
returns c =
    ap Some (c.in_ok-extend_from_slice-2.ensures.ok ∙ ap (λ (ts : List Term). ts ++ take (length c.args.right.now - c.front.j) (drop c.front.j c.args.right.now)) c.in_ok-extend_from_slice.ensures.ok)
    ∙ merged_end c.args.left.now c.args.right.now c.front.i c.front.j c.front.terms
    (elim c.front-test.branch [
      | then-front-test+else-j-right w ↦ inr w.if-j-right.false
      | else-front-test w ↦ inl w.front-test.false
    ])
    ∙ c.front.invariant.whole
