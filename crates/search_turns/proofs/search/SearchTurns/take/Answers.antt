use Rattle.std.proofs.Common.{◌≡◌, subst, sym, ◌∙◌}
use Rattle.search_runs.specs.Answers.{count, is_taken}
use Rattle.search_turns.proofs.Taking.{none_of, not_yet}
use Rattle.search_turns.specs.Turns.{Turns}
use Rattle.search_turns.proofs.search.SearchTurns.take.Goals as goal

pub returns-in-None-clause-ok : goal.returns-in-None-clause-ok
returns-in-None-clause-ok c =
    not_yet c.args.worker c.taken.result c.args.self.now (sym c.answer.ensures ∙ none_of c.answer.result c.if-is_some.ensures) c.in-None.ensures
    (subst (λ (v : Turns). c.taken.result ≡ count is_taken v.table.nodes) c.self.view_is c.taken.ensures)
