use Rattle.std.proofs.Common.{ℕ, ℤ, Bool, List, set, subst, sym, ◌∙◌}
use Rattle.ground_task.specs.Rows.{FitsWords, RowValue}
use Rattle.ground_task.proofs.StateRows.{is_row, narrow_within, narrow_written, view_of, wide_within, wide_written, words_of, AreWordsOf}
use Rattle.ground_task.proofs.row.Row.set_value.Goals as goal

abbrev after : RowValue → ℕ → ℤ → RowValue
after r i n = record { facts = r.facts; values = set r.values i n; is_wide = r.is_wide }

pub write_wide-requires : goal.write_wide-requires
write_wide-requires c =
    let r = c.self.inside in
    let are = words_of r.words.items r.facts r.values r.is_wide c.args.self.now c.self.invariant c.self.view_is in
    record { within = wide_within r.words.items r.facts r.values r.is_wide c.args.self.now are _ c.fact_words-start.ensures c.if-self.true c.args.place c.requires.known }

pub write_narrow-requires-clause-within : goal.write_narrow-requires-clause-within
write_narrow-requires-clause-within c =
    let r = c.self.inside in
    let are = words_of r.words.items r.facts r.values r.is_wide c.args.self.now c.self.invariant c.self.view_is in
    narrow_within r.words.items r.facts r.values r.is_wide c.args.self.now are _ c.fact_words-start.ensures c.if-self.false c.args.place c.requires.known

pub write_narrow-requires-clause-fits : goal.write_narrow-requires-clause-fits
write_narrow-requires-clause-fits c =
    let r = c.self.inside in
    let are = words_of r.words.items r.facts r.values r.is_wide c.args.self.now c.self.invariant c.self.view_is in
    subst (λ (b : Bool). FitsWords b c.args.value.n) (sym are.width_is ∙ c.if-self.false) c.requires.fits

pub invariant_of-self : goal.invariant_of-self
invariant_of-self c =
    let r = c.self.inside in
    let are = words_of r.words.items r.facts r.values r.is_wide c.args.self.now c.self.invariant c.self.view_is in
    is_row _ r.facts r.values r.is_wide (after c.args.self.now c.args.place c.args.value.n)
    (subst (λ (ws : List ℕ). AreWordsOf ws r.facts r.values r.is_wide (after c.args.self.now c.args.place c.args.value.n)) (sym c.write_wide.ensures) (wide_written r.words.items r.facts r.values r.is_wide c.args.self.now are _ c.fact_words-start.ensures c.if-self.true c.args.place c.args.value.n c.requires.fits))

pub invariant_of-self-else-self : goal.invariant_of-self-else-self
invariant_of-self-else-self c =
    let r = c.self.inside in
    let are = words_of r.words.items r.facts r.values r.is_wide c.args.self.now c.self.invariant c.self.view_is in
    is_row _ r.facts r.values r.is_wide (after c.args.self.now c.args.place c.args.value.n)
    (subst (λ (ws : List ℕ). AreWordsOf ws r.facts r.values r.is_wide (after c.args.self.now c.args.place c.args.value.n)) (sym c.write_narrow.ensures) (narrow_written r.words.items r.facts r.values r.is_wide c.args.self.now are _ c.fact_words-start.ensures c.if-self.false c.args.place c.args.value.n c.requires.fits))

pub returns-then-self : goal.returns-then-self
returns-then-self c =
    let r = c.self.inside in
    let are = words_of r.words.items r.facts r.values r.is_wide c.args.self.now c.self.invariant c.self.view_is in
    view_of _ r.facts r.values r.is_wide (after c.args.self.now c.args.place c.args.value.n)
    (subst (λ (ws : List ℕ). AreWordsOf ws r.facts r.values r.is_wide (after c.args.self.now c.args.place c.args.value.n)) (sym c.write_wide.ensures) (wide_written r.words.items r.facts r.values r.is_wide c.args.self.now are _ c.fact_words-start.ensures c.if-self.true c.args.place c.args.value.n c.requires.fits))

pub returns-else-self : goal.returns-else-self
returns-else-self c =
    let r = c.self.inside in
    let are = words_of r.words.items r.facts r.values r.is_wide c.args.self.now c.self.invariant c.self.view_is in
    view_of _ r.facts r.values r.is_wide (after c.args.self.now c.args.place c.args.value.n)
    (subst (λ (ws : List ℕ). AreWordsOf ws r.facts r.values r.is_wide (after c.args.self.now c.args.place c.args.value.n)) (sym c.write_narrow.ensures) (narrow_written r.words.items r.facts r.values r.is_wide c.args.self.now are _ c.fact_words-start.ensures c.if-self.false c.args.place c.args.value.n c.requires.fits))
