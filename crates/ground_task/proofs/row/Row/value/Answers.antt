use Rattle.std.proofs.Common.{ℤ, ap, of_z, subst, sym, to_z, ◌∙◌}
use Rattle.num_ends.specs.Decimal.{InRange}
use Rattle.std.specs.Int.{w128}
use Rattle.ground_task.proofs.StateRows.{narrow_read, narrow_within, value_in_range, value_kept, wide_read, wide_within, words_of}
use Rattle.ground_task.proofs.row.Row.value.Goals as goal

pub wide_value-requires : goal.wide_value-requires
wide_value-requires c =
    let r = c.self.inside in
    let are = words_of r.words.items r.facts r.values r.is_wide c.args.self.now c.self.invariant c.self.view_is in
    record { within = wide_within r.words.items r.facts r.values r.is_wide c.args.self.now are _ c.fact_words-start.ensures c.if-self.true c.args.place c.requires.known }

pub narrow_value-requires : goal.narrow_value-requires
narrow_value-requires c =
    let r = c.self.inside in
    let are = words_of r.words.items r.facts r.values r.is_wide c.args.self.now c.self.invariant c.self.view_is in
    record { within = narrow_within r.words.items r.facts r.values r.is_wide c.args.self.now are _ c.fact_words-start.ensures c.if-self.false c.args.place c.requires.known }

pub returns-then-self-clause-value : goal.returns-then-self-clause-value
returns-then-self-clause-value c =
    let r = c.self.inside in
    let are = words_of r.words.items r.facts r.values r.is_wide c.args.self.now c.self.invariant c.self.view_is in
    ap (λ (n : ℤ). to_z w128 (of_z w128 n)) (c.wide_value.ensures ∙ wide_read r.words.items r.facts r.values r.is_wide c.args.self.now are _ c.fact_words-start.ensures c.if-self.true c.args.place c.requires.known)
    ∙ value_kept r.words.items r.facts r.values r.is_wide c.args.self.now are c.args.place c.requires.known

pub returns-else-self-clause-value : goal.returns-else-self-clause-value
returns-else-self-clause-value c =
    let r = c.self.inside in
    let are = words_of r.words.items r.facts r.values r.is_wide c.args.self.now c.self.invariant c.self.view_is in
    ap (λ (n : ℤ). to_z w128 (of_z w128 n)) (c.narrow_value.ensures ∙ narrow_read r.words.items r.facts r.values r.is_wide c.args.self.now are _ c.fact_words-start.ensures c.if-self.false c.args.place c.requires.known)
    ∙ value_kept r.words.items r.facts r.values r.is_wide c.args.self.now are c.args.place c.requires.known

pub returns-then-self-clause-in_range : goal.returns-then-self-clause-in_range
returns-then-self-clause-in_range c =
    let r = c.self.inside in
    let are = words_of r.words.items r.facts r.values r.is_wide c.args.self.now c.self.invariant c.self.view_is in
    subst InRange (sym (ap (λ (n : ℤ). to_z w128 (of_z w128 n)) (c.wide_value.ensures ∙ wide_read r.words.items r.facts r.values r.is_wide c.args.self.now are _ c.fact_words-start.ensures c.if-self.true c.args.place c.requires.known)
    ∙ value_kept r.words.items r.facts r.values r.is_wide c.args.self.now are c.args.place c.requires.known))
    (value_in_range r.words.items r.facts r.values r.is_wide c.args.self.now are c.args.place c.requires.known)

pub returns-else-self-clause-in_range : goal.returns-else-self-clause-in_range
returns-else-self-clause-in_range c =
    let r = c.self.inside in
    let are = words_of r.words.items r.facts r.values r.is_wide c.args.self.now c.self.invariant c.self.view_is in
    subst InRange (sym (ap (λ (n : ℤ). to_z w128 (of_z w128 n)) (c.narrow_value.ensures ∙ narrow_read r.words.items r.facts r.values r.is_wide c.args.self.now are _ c.fact_words-start.ensures c.if-self.false c.args.place c.requires.known)
    ∙ value_kept r.words.items r.facts r.values r.is_wide c.args.self.now are c.args.place c.requires.known))
    (value_in_range r.words.items r.facts r.values r.is_wide c.args.self.now are c.args.place c.requires.known)
