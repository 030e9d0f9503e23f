use Rattle.std.proofs.Common.{arith, ◌<◌, ℕ, ◌+◌, ◌*◌, sym, ap, subst}
use Rattle.word_rows.proofs.Places.{inside_table, row_before}
use Rattle.word_rows.proofs.rows.WordRows.place.Goals as goal

pub returns-clause-inside : goal.returns-clause-inside
returns-clause-inside g c = let width = c.args.self.now.width in subst (λ (n : ℕ). n + c.args.index < 1025 + 1024 * width) (sym c.start.ensures.start)
    (inside_table width c.args.row c.args.index c.requires.row c.requires.index)

pub overflow_add-result : goal.overflow_add-result
overflow_add-result g c = let few = c.args.self.now.few_words in let a = row_before c.args.self.now.width c.args.row c.requires.row in let h = c.requires.index in let e = c.start.ensures.start in omega arith
