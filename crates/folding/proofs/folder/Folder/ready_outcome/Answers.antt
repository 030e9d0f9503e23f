use Rattle.std.proofs.Common.{ap, sym, subst}
use Rattle.std.specs.Prelude.{MatchResult}
use Rattle.static_facts.specs.Atoms.{names}
use Rattle.ground_meaning.specs.Outcomes.{Outcome, outcome_of}
use Rattle.folding.specs.Folding.{IsKept, IsRefusedBy}
use Rattle.folding.proofs.folder.Folder.ready_outcome.Goals as goal

pub returns-in-Ok : goal.returns-in-Ok
returns-in-Ok c =
    subst (λ (o : Outcome). MatchResult c.settled.result (IsKept o) (IsRefusedBy o))
    (sym (ap (outcome_of c.args.self.now.0 c.args.self.now.1 (names c.args.self.now.0 c.args.objects.now)) c.in-Ok.ensures)) c.settled.ensures
