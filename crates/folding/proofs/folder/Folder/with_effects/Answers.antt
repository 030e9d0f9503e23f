use Rattle.std.proofs.Common.{List, ap, sym, ◌∙◌}
use Rattle.static_facts.specs.Atoms.{names}
use Rattle.ground_meaning.specs.Results.{mapped}
use Rattle.ground_meaning.specs.Actions.{FoldedChange, folded_changes}
use Rattle.folded_terms.specs.Settled.{settled_of}
use Rattle.folding.proofs.Folded.{fault_mapped, fault_same}
use Rattle.folding.proofs.SameParts.{changes_for, known_for}
use Rattle.folding.proofs.folder.Folder.with_effects.Goals as goal

pub fold-requires-clause-known : goal.fold-requires-clause-known
fold-requires-clause-known c = known_for c.self.inside.effects c.args.self.now (c.self.invariant.is_changed ∙ c.self.view_is) c.args.objects.now c.requires.known

pub returns-in-Ok : goal.returns-in-Ok
returns-in-Ok c =
    ap (mapped (λ (changes : List FoldedChange). record { condition = settled_of c.args.condition; changes = changes }))
    (sym (changes_for c.self.inside.effects c.args.self.now (c.self.invariant.is_changed ∙ c.self.view_is) c.args.objects.now) ∙ c.in-Ok.ensures)

pub returns-in-Err : goal.returns-in-Err
returns-in-Err c =
    let q = c.self.inside.effects in
    let w = c.args.self.now in
    let os = c.args.objects.now in
    fault_mapped (λ (changes : List FoldedChange). record { condition = settled_of c.args.condition; changes = changes }) (folded_changes w.0 w.1.params (names w.0 os) w.1.effects) c.in-Err.error
    (fault_same (folded_changes q.0 q.1.params (names q.0 os) q.1.effects) (folded_changes w.0 w.1.params (names w.0 os) w.1.effects) c.in-Err.error
    (changes_for q w (c.self.invariant.is_changed ∙ c.self.view_is) os) c.in-Err.ensures)
