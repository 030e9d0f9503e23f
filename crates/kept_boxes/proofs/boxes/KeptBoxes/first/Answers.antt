use Rattle.std.proofs.Common.{ℕ, subst, inl, inr, arith}
use Rattle.std.proofs.lemmas.Bool.{cases_order}
use Rattle.search_runs.proofs.Places.{at_within}
use Rattle.search_runs.specs.Spaces.{IsAt}
use Rattle.kept_boxes.proofs.boxes.KeptBoxes.first.Goals as goal

pub each-preserved : goal.each-preserved
each-preserved c = record {
  none = λ k other less at contains.
      elim (cases_order k c.each.next) [
        | inl same ↦ c.lies_in.ensures.absent c.if-lies_in.false other (subst (λ (n : ℕ). IsAt c.args.self.now n other) same at) contains
        | inr (inl before) ↦ c.each.invariant.none k other before at contains
        | inr (inr after) ↦ absurd (omega (arith, less, after))
      ];
}

pub returns-clause-absent : goal.returns-clause-absent
returns-clause-absent c = λ b own at contains. c.each.invariant.none b own (omega (arith, at_within c.args.self.now b own at, c.len-count.ensures.number)) at contains

pub returns-then-lies_in-clause-found : goal.returns-then-lies_in-clause-found
returns-then-lies_in-clause-found c =
    let own = c.lies_in.ensures.there c.if-lies_in.true in
    record {
      box = own.0;
      there = own.1;
      contains = own.2;
      earlier = λ k other less at contains. c.each.invariant.none k other less at contains;
    }
