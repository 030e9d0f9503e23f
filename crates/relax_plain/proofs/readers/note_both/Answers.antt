use Rattle.std.proofs.lemmas.Result.{on_ok_weaker}
use Rattle.relax_plain.specs.Reads.{reads}
use Rattle.relax_plain.proofs.ReaderLemmas.{noted_both}
use Rattle.relax_plain.proofs.readers.note_both.Goals as goal

pub returns : goal.returns
returns c =
    on_ok_weaker c.note_read-2.result
    (λ h. noted_both c.args.number (λ x. reads x c.args.a.now) (λ x. reads x c.args.b.now) c.args.lists.now.items c.note_read.new.lists.items c.note_read-2.new.lists.items c.in_ok-note_read.ensures h)
    c.note_read-2.ensures
