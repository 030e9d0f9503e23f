use Rattle.std.proofs.Common.{rules, arith, ◌≡◌, ◌<◌, ◌≤◌, ℕ, ◌+◌, List, ◌++◌, length, get_or, ◌∙◌, subst}
use Rattle.std.proofs.lemmas.List.{take_all}
use Rattle.std.specs.Set.{distinct_count}
use Rattle.supporter_count.specs.Marks.{AreMarked}
use Rattle.supporter_count.proofs.Unique.{same}
use Rattle.supporter_count.proofs.Marking.{marked_more}
use Rattle.supporter_count.proofs.marks.Marks.mark_all.Goals as goal

pub facts-preserved : goal.facts-preserved
facts-preserved c = let inv = c.facts.invariant in let facts = c.args.facts.now in let k = c.facts.place in let lt : k < length facts = search rules in record {
  marked = marked_more c.args.self.now c.facts.self c.mark-more.new.self facts k (get_or facts k 0) c.facts.more c.mark-more.result lt (search rules) inv.marked c.mark-more.ensures.marked;
  few = let a = inv.few in let b = c.mark-more.ensures.one in omega arith;
  size = c.mark-more.ensures.size ∙ inv.size;
  current = c.mark-more.ensures.current ∙ inv.current;
}

pub returns-clause-marked : goal.returns-clause-marked
returns-clause-marked c = λ before h. let facts = c.args.facts.now in let end = c.facts-test.false in let le : length facts ≤ c.facts.place = omega arith in
    subst (λ (l : List ℕ). AreMarked c.facts.self (before ++ l) × (distinct_count same (before ++ l) ≡ distinct_count same before + c.facts.more)) (take_all c.facts.place facts le) (c.facts.invariant.marked before h)
