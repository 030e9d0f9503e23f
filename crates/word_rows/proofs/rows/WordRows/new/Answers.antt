use Rattle.std.proofs.Common.{◌≡◌, ℕ, ◌+◌, ◌*◌, List, [], replicate, sym, ◌∙◌, subst}
use Rattle.atomic_table.specs.Table.{opening}
use Rattle.word_rows.specs.Views.{fresh_view}
use Rattle.word_rows.specs.Rule.{Kept}
use Rattle.word_rows.proofs.Sharing.{starts}
use Rattle.word_rows.proofs.rows.WordRows.new.Goals as goal

pub of_words-requires : goal.of_words-requires
of_words-requires g c = let width = c.args.width in let seats = c.args.seats in let IsEntry = g.E.Entries.IsEntry c.of.result.value in
    let words : c.as_slice.result.now ≡ replicate (1025 + 1024 * width) 0 = c.as_slice.ensures.value ∙ c.in_ok-words.ensures in
    subst (λ (l : List ℕ). Kept width IsEntry seats (opening l [] (fresh_view seats))) (sym words) (starts width IsEntry seats c.requires.seats.1)
