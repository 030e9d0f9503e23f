use Rattle.std.proofs.Common.{◌==◌}
use Rattle.std.proofs.lemmas.Result.{on_ok_weaker}
use Rattle.relax_plain.specs.Reads.{reads}
use Rattle.relax_plain.proofs.ReaderLemmas.{noted_both, noted_set}
use Rattle.relax_plain.proofs.readers.note_used.Goals as goal

pub returns-in_ok-note-in-Set : goal.returns-in_ok-note-in-Set
returns-in_ok-note-in-Set c =
    on_ok_weaker c.note_read-in-Set.result
    (λ h. noted_set c.args.number c.args.effect.now c.in-Set.expr c.args.lists.now.items c.note_read-in-Set.new.lists.items c.in-Set.is
    (noted_both c.args.number (λ x. c.args.effect.now.0 == x) (λ x. reads x c.in-Set.expr) c.args.lists.now.items c.note.new.lists.items c.note_read-in-Set.new.lists.items c.in_ok-note-in-Set.ensures h))
    c.note_read-in-Set.ensures
