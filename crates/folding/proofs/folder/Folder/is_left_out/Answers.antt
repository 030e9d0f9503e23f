use Rattle.std.proofs.Common.{ap, sym, ◌∙◌}
use Rattle.folding.specs.internal.Sound.{is_answered}
use Rattle.folding.proofs.Outcomes.{left_out}
use Rattle.folding.proofs.SameParts.{changes_for}
use Rattle.folding.proofs.folder.Folder.is_left_out.Goals as goal

pub returns-then-is_false : goal.returns-then-is_false
returns-then-is_false c =
    let w = c.args.self.now in
    let os = c.args.objects.now in
    λ h.
    left_out w.0 w.1 os (c.is_false.ensures c.if-is_false.true)
    (sym (ap is_answered (changes_for c.self.inside.effects w (c.self.invariant.is_changed ∙ c.self.view_is) os)) ∙ c.are_sound.ensures h)
