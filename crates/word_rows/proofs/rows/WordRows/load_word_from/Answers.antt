use Rattle.std.proofs.Common.{arith, ◌≡◌, ◌<◌, ℕ, ◌+◌, ◌*◌, sym, ap, ◌∙◌, subst}
use Rattle.word_rows.specs.Views.{line}
use Rattle.word_rows.specs.Rule.{row_start}
use Rattle.word_rows.proofs.Picks.{allows_read}
use Rattle.word_rows.proofs.Places.{inside_table, row_before}
use Rattle.word_rows.proofs.Fitting.{fits_still}
use Rattle.word_rows.proofs.rows.WordRows.load_word_from.Goals as goal

pub overflow_add-start : goal.overflow_add-start
overflow_add-start g c = let few = c.args.self.now.few_words in let a = row_before c.args.self.now.width c.args.row c.requires.row in let h = c.requires.index in let e = c.requires.start in omega arith

pub load-requires : goal.load-requires
load-requires g c = let rows = c.args.self.now in let size = rows.sized in let h = inside_table rows.width c.args.row c.args.index c.requires.row c.requires.index in let e = c.requires.start in
    (c.requires.seat.table, omega arith, allows_read _ _ _ _ _ _ _)

pub returns-clause-seat : goal.returns-clause-seat
returns-clause-seat g c = fits_still c.args.self.now.table.shared.table_id c.args.seat.now c.load.new.seat c.requires.seat c.load.ensures.0 c.load.ensures.2.0

pub returns-clause-view : goal.returns-clause-view
returns-clause-view g c = ap (λ m. m.0) c.load.ensures.2.0

pub returns-clause-word : goal.returns-clause-word
returns-clause-word g c = λ words known. let rows = c.args.self.now in let key = rows.table.shared.key in let h = c.requires.index in let k = rows.same_width in let short : c.args.index < key.width = omega arith in
    c.load.ensures.2.1 (line c.args.row words) known c.args.index short (ap (λ (n : ℕ). n + c.args.index) (c.requires.start ∙ ap (λ (n : ℕ). row_start n c.args.row) (sym k)))
