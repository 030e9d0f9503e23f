use Rattle.std.proofs.Common.{◌+◌, ℕ, pos, false, replicate, ap₂, ◌∙◌}
use Rattle.ground_task.proofs.StateRows.{is_row, view_of, zero_words, AreWordsOf}
use Rattle.ground_task.proofs.row.Row.cleared.Goals as goal

are : (c : goal.In_ok-words) → AreWordsOf c.in_ok-words.words.items c.args.facts c.args.values c.args.is_wide (record { facts = replicate c.args.facts false; values = replicate c.args.values (pos 0); is_wide = c.args.is_wide })
are c =
    zero_words c.in_ok-words.words.items c.args.facts c.args.values c.args.is_wide
    (c.in_ok-words.ensures.items_if_clones_equal (λ y same. same)
    ∙ ap₂ (λ (m n : ℕ). replicate (m + n) 0) c.div_ceil.ensures c.number_word_count.ensures)

pub invariant_of-result : goal.invariant_of-result
invariant_of-result c = is_row _ _ _ _ _ (are c)

pub returns : goal.returns
returns c = view_of _ _ _ _ _ (are c)
