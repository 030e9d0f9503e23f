-- One journal, one list of nodes.
use Rattle.std.proofs.Common.{◌≡◌, zero, suc, List, [], ◌∷◌, None, refl, ap, sym, ◌∙◌}
use Rattle.ground_task.specs.States.{StateValue}
use Rattle.search_runs.proofs.Journals.{AreAlike as AreAlikeNodes, runs_alike}
use Rattle.search_runs.specs.Runs.{Run}
use Rattle.search_runs.specs.declared.nodes.Node.{Node}
use Rattle.search_nodes.specs.Tables.{config_of}
use Rattle.search_turns.specs.Turns.{SameTerms, Turns}
use Rattle.search_records.proofs.Plain.{one_estimate}
use Rattle.search_core.proofs.Meaning.{laws_in}
use Rattle.search_records.specs.Nodes.{AreSameNodes}
use Rattle.search_core.specs.Searches.{IsSearch, space_in}

same_at : (xs ys : List (Node StateValue)) → AreAlikeNodes xs ys → AreSameNodes xs ys
same_at [] [] h n x at = cc
same_at [] (y ∷ ys) h n x at = absurd h
same_at (z ∷ xs) [] h n x at = absurd h
same_at (z ∷ xs) (y ∷ ys) h zero x at =
    let same : z ≡ x = cc in
    let first = h.0 in
    (y, refl, sym (ap (λ w. w.state) same) ∙ first.0, sym (ap (λ w. w.parent) same) ∙ first.1, sym (ap (λ w. w.via) same) ∙ first.2)
same_at (z ∷ xs) (y ∷ ys) h (suc n) x at = same_at xs ys h.1 n x at

-- one journal leads to one list of nodes, as long as there is room
pub journals_fix : (v w : Turns) → IsSearch v → IsSearch w → SameTerms v w → v.journal ≡ w.journal → v.table.full ≡ None → w.table.full ≡ None → AreSameNodes v.table.nodes w.table.nodes
journals_fix v w is other terms journal room also =
    let run : Run (space_in v) v.journal (config_of w.table) = rw (← terms.task, ← terms.most, ← terms.limit, ← terms.workers, journal) other.run in
    let laws = laws_in v is in
    same_at v.table.nodes w.table.nodes
    (runs_alike (space_in v) laws.goal_live (λ s h k one two. one_estimate v.table.task s h k one two) laws.keeps v.journal (config_of v.table) (config_of w.table) is.run run room also).0
