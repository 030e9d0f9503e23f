use Rattle.std.proofs.Common.{ap, length, refl, sym, ◌∙◌}
use Rattle.ground_task.proofs.StateRows.{as_many_row_words, is_row, taken_over, view_of, words_of}
use Rattle.ground_task.proofs.row.Row.copy_from.Goals as goal

pub copy_from_slice-requires : goal.copy_from_slice-requires
copy_from_slice-requires c =
    let r = c.self.inside in
    let s = c.other.inside in
    let one = words_of r.words.items r.facts r.values r.is_wide c.args.self.now c.self.invariant c.self.view_is in
    let two = words_of s.words.items s.facts s.values s.is_wide c.args.other.now c.other.invariant c.other.view_is in
    ap length c.as_mut_slice.ensures.value
    ∙ as_many_row_words _ _ _ _ _ _ _ _ _ _ one two c.requires.as_many_facts c.requires.as_many_values c.requires.one_width
    ∙ sym (ap length c.as_slice.ensures.value)

pub invariant_of-self : goal.invariant_of-self
invariant_of-self c =
    let r = c.self.inside in
    let s = c.other.inside in
    let one = words_of r.words.items r.facts r.values r.is_wide c.args.self.now c.self.invariant c.self.view_is in
    let two = words_of s.words.items s.facts s.values s.is_wide c.args.other.now c.other.invariant c.other.view_is in
    is_row _ r.facts r.values r.is_wide c.args.other.now
    (taken_over r.words.items s.words.items _ c.copy_from_slice.new.self _ _ _ _ r.words.len _ _ _ _ one two c.requires.as_many_facts c.requires.as_many_values c.requires.one_width r.words.ok.0 (c.copy_from_slice.ensures.after ∙ c.as_slice.ensures.value) refl)

pub returns : goal.returns
returns c =
    let r = c.self.inside in
    let s = c.other.inside in
    let one = words_of r.words.items r.facts r.values r.is_wide c.args.self.now c.self.invariant c.self.view_is in
    let two = words_of s.words.items s.facts s.values s.is_wide c.args.other.now c.other.invariant c.other.view_is in
    view_of _ r.facts r.values r.is_wide c.args.other.now
    (taken_over r.words.items s.words.items _ c.copy_from_slice.new.self _ _ _ _ r.words.len _ _ _ _ one two c.requires.as_many_facts c.requires.as_many_values c.requires.one_width r.words.ok.0 (c.copy_from_slice.ensures.after ∙ c.as_slice.ensures.value) refl)
