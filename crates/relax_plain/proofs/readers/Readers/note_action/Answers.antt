use Rattle.std.specs.List.{list_any}
use Rattle.std.proofs.lemmas.Result.{on_ok_weaker}
use Rattle.relax_plain.specs.Reads.{compares, is_used}
use Rattle.relax_plain.proofs.ReaderLemmas.{noted_both}
use Rattle.relax_plain.proofs.readers.Readers.note_action.Goals as goal

pub returns-clause-fluents : goal.returns-clause-fluents
returns-clause-fluents c =
    on_ok_weaker c.note_changes.result
    (λ h. noted_both c.args.number (λ x. compares x c.args.action.now.pre) (λ x. list_any (is_used x) c.args.action.now.nums) c.args.self.now.fluents.items
    c.note_compared.new.lists.items c.note_changes.new.lists.items c.in_ok-note_compared.ensures (rw c.as_slice.ensures at h))
    c.note_changes.ensures
