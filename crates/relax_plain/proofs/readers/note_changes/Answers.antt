use Rattle.std.proofs.Common.{ℕ, subst}
use Rattle.ground_task.specs.declared.raw.Change.{Change}
use Rattle.relax_plain.specs.Reads.{is_used, IsNoted}
use Rattle.relax_plain.proofs.ReaderLemmas.{noted_more}
use Rattle.relax_plain.proofs.readers.note_changes.Goals as goal

pub each-preserved : goal.each-preserved
each-preserved c =
    let e : ℕ × Change = c.effect-item.result in
    noted_more c.args.number is_used c.args.effects.now c.each.effect-index e c.args.lists.now.items c.each.lists.items c.note_used.new.lists.items c.each-test.true c.each.invariant
    (subst (λ (p : ℕ × Change). IsNoted c.args.number (λ x. is_used x p) c.each.lists.items c.note_used.new.lists.items) c.effect-item.is c.in_ok-note_used.ensures)
