use Rattle.ground_task.proofs.StateRows.{same_facts_count, same_values_count, words_of}
use Rattle.ground_task.proofs.row.Row.is_same.Goals as goal

pub returns-then-self-other-clause-itself : goal.returns-then-self-other-clause-itself
returns-then-self-other-clause-itself c = λ e.
    let r = c.self.inside in
    let s = c.other.inside in
    let one = words_of r.words.items r.facts r.values r.is_wide c.args.self.now c.self.invariant c.self.view_is in
    let two = words_of s.words.items s.facts s.values s.is_wide c.args.other.now c.other.invariant c.other.view_is in
    absurd (c.if-self-other.true (same_facts_count _ _ _ _ _ _ _ _ _ _ one two e))

pub returns-then-self-other-2-clause-itself : goal.returns-then-self-other-2-clause-itself
returns-then-self-other-2-clause-itself c = λ e.
    let r = c.self.inside in
    let s = c.other.inside in
    let one = words_of r.words.items r.facts r.values r.is_wide c.args.self.now c.self.invariant c.self.view_is in
    let two = words_of s.words.items s.facts s.values s.is_wide c.args.other.now c.other.invariant c.other.view_is in
    absurd (c.if-self-other-2.true (same_values_count _ _ _ _ _ _ _ _ _ _ one two e))
