use Rattle.std.proofs.Common.{sym, subst, ◌∙◌}
use Rattle.std.specs.Prelude.{MatchResult}
use Rattle.ground_meaning.specs.Outcomes.{Outcome}
use Rattle.folding.specs.Folding.{IsKept, IsRefusedBy}
use Rattle.folding.proofs.Outcomes.{not_ready, ready}
use Rattle.folding.proofs.SameParts.{ready_for}
use Rattle.folding.proofs.folder.Folder.outcome.Goals as goal

pub returns-then-is_ready : goal.returns-then-is_ready
returns-then-is_ready c =
    let w = c.args.self.now in
    let os = c.args.objects.now in
    subst (λ (o : Outcome). MatchResult c.ready_outcome.result (IsKept o) (IsRefusedBy o))
    (sym (ready w.0 w.1 os (sym (c.if-is_ready.ensures ∙ ready_for c.self.inside.readiness w (c.self.invariant.is_ready ∙ c.self.view_is) os)))) c.ready_outcome.ensures

pub returns : goal.returns
returns c =
    let w = c.args.self.now in
    let os = c.args.objects.now in
    not_ready w.0 w.1 os (sym (c.if-is_ready.ensures ∙ ready_for c.self.inside.readiness w (c.self.invariant.is_ready ∙ c.self.view_is) os))
