use Rattle.std.proofs.Common.{◌≡◌, ◌<◌, length, get_or, false, true, arith, ◌∙◌, sym}
use Rattle.sexp_text.specs.Pieces.{is_word_byte}
use Rattle.sexp_text.proofs.Steps.{nothing_left, opening_step, closing_step, bad_step, word_step}
use Rattle.sexp_text.proofs.scan.next_mark.Goals as goal
use Rattle.sexp_text.proofs.scan.next_mark.Goals.{in-40, in-41, in_default}

pub returns-then-from-bytes-clause-exact : goal.returns-then-from-bytes-clause-exact
returns-then-from-bytes-clause-exact c =
    sym c.gap_end-from.ensures.skipped ∙ nothing_left c.args.bytes.now false c.gap_end-from.result c.gap_end-from.result (omega arith)

pub returns-in_default-2-clause-exact : goal.returns-in_default-2-clause-exact
returns-in_default-2-clause-exact c =
    let inside : c.gap_end-from.result < length c.args.bytes.now = omega arith in
    let no_word : is_word_byte (get_or c.args.bytes.now c.gap_end-from.result 0) ≡ false = cc in
    sym c.gap_end-from.ensures.skipped
    ∙ bad_step c.args.bytes.now c.gap_end-from.result inside (c.gap_end-from.ensures.stops inside) (λ e. omega arith) (λ e. omega arith) no_word

pub returns-clause-exact : goal.returns-clause-exact
returns-clause-exact c =
    let inside : c.gap_end-from.result < length c.args.bytes.now = omega arith in
    let here = c.gap_end-from.ensures.stops inside in
    elim c.match-bytes-from.branch [
      | in-40 w ↦ rw w.mark-is (sym c.gap_end-from.ensures.skipped ∙ opening_step c.args.bytes.now c.gap_end-from.result inside here w.in-40.is)
      | in-41 w ↦ rw w.mark-is (sym c.gap_end-from.ensures.skipped ∙ closing_step c.args.bytes.now c.gap_end-from.result inside here w.in-41.is)
      | in_default w ↦
          let word : is_word_byte (get_or c.args.bytes.now c.gap_end-from.result 0) ≡ true = cc in
          rw w.mark-is (sym c.gap_end-from.ensures.skipped ∙ word_step c.args.bytes.now c.gap_end-from.result w.word_end.result inside word w.word_end.ensures.end)
    ]
