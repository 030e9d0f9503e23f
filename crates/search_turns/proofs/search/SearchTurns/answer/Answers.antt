use Rattle.std.proofs.Common.{◌≡◌, ◌<◌, ℕ, None, false, subst, sym, ◌∙◌, arith}
use Rattle.search_nodes.specs.Tables.{config_of}
use Rattle.search_runs.specs.Answers.{answer_of, count, first_where, is_goal, is_taken, when_idle}
use Rattle.search_runs.specs.Runs.{has_starve}
use Rattle.search_turns.proofs.Answering.{answer_idle, answer_taken}
use Rattle.search_turns.specs.Turns.{Turns}
use Rattle.search_turns.proofs.search.SearchTurns.answer.Goals as goal

pub returns-then-taken-gt0 : goal.returns-then-taken-gt0
returns-then-taken-gt0 c =
    let s = c.self.inside in
    let no_goal : first_where is_goal s.nodes.nodes ≡ None = sym c.goal.ensures ∙ c.in_default.is in
    let fed : has_starve s.journal.items ≡ false = sym c.self.invariant.starved_is ∙ c.if-self.false in
    let some : 0 < count is_taken s.nodes.nodes = subst (λ (k : ℕ). 0 < k) c.taken.ensures c.if-taken-gt0.true in
    subst (λ (v : Turns). None ≡ answer_of v.limit v.journal (config_of v.table)) c.self.view_is (sym (answer_taken s.limit s.journal.items (config_of s.nodes) no_goal fed some))

pub returns : goal.returns
returns c =
    let s = c.self.inside in
    let no_goal : first_where is_goal s.nodes.nodes ≡ None = sym c.goal.ensures ∙ c.in_default.is in
    let fed : has_starve s.journal.items ≡ false = sym c.self.invariant.starved_is ∙ c.if-self.false in
    let none : count is_taken s.nodes.nodes ≡ 0 = omega (arith, c.taken.ensures, c.if-taken-gt0.false) in
    c.idle_answer.ensures
    ∙ subst (λ (v : Turns). when_idle v.limit v.journal (config_of v.table) ≡ answer_of v.limit v.journal (config_of v.table)) c.self.view_is (sym (answer_idle s.limit s.journal.items (config_of s.nodes) no_goal fed none))
