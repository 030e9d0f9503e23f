use Rattle.std.proofs.Common.{arith}
use Rattle.word_rows.proofs.Places.{row_before}
use Rattle.word_rows.proofs.rows.WordRows.start.Goals as goal

pub overflow_mul-result : goal.overflow_mul-result
overflow_mul-result g c = let few = c.args.self.now.few_words in let a = row_before c.args.self.now.width c.args.row c.requires.row in omega arith

pub overflow_add-result : goal.overflow_add-result
overflow_add-result g c = let few = c.args.self.now.few_words in let a = row_before c.args.self.now.width c.args.row c.requires.row in omega arith
