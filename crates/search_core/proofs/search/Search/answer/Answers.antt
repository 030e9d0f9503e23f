use Rattle.std.proofs.Common.{subst}
use Rattle.std.specs.Prelude.{IfSome}
use Rattle.search_core.proofs.Meaning.{answer_claims}
use Rattle.search_records.specs.Claims.{Claims}
use Rattle.search_core.specs.Searches.{IsSearch}
use Rattle.search_nodes.specs.Tables.{config_of}
use Rattle.search_turns.specs.Turns.{Turns}
use Rattle.search_core.proofs.search.Search.answer.Goals as goal

pub returns-clause-claims : goal.returns-clause-claims
returns-clause-claims c =
    subst (λ (v : Turns). IfSome c.answer.result (Claims v.table.task v.limit v.table.most v.journal (config_of v.table))) c.self.view_is
    (answer_claims c.self.inside.turns c.answer.result c.self.invariant c.answer.ensures)

pub returns-clause-run : goal.returns-clause-run
returns-clause-run c = subst IsSearch c.self.view_is c.self.invariant
