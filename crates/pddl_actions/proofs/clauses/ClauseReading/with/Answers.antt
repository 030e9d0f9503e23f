use Rattle.std.proofs.Common.{ℕ, refl, ap, ◌∙◌}
use Rattle.pddl_trees.specs.Faults.{noted}
use Rattle.pddl_trees.specs.Forms.{shape_at}
use Rattle.pddl_actions.specs.internal.ClauseSteps.{clause_said, clauses_of}
use Rattle.pddl_actions.proofs.ClauseLemmas.{body_taken, keyword_taken, misfit_taken}
use Rattle.pddl_actions.proofs.clauses.ClauseReading.with.Goals as goal

pub returns-in-Some : goal.returns-in-Some
returns-in-Some c = λ at ts.
    rw c.in-Some.is (body_taken c.args.text.now (clause_said c.in-Some.clause) (clauses_of c.args.self.parts) (clauses_of c.with.result) c.args.tree.now c.args.notes.now.first c.with.ensures at ts)

pub returns-in-Some-clause_of : goal.returns-in-Some-clause_of
returns-in-Some-clause_of c = λ at ts.
    rw c.in_default.is (keyword_taken c.args.text.now (clause_said c.in-Some-clause_of.clause) (clauses_of c.args.self.parts) c.args.tree.now c.args.notes.now.first c.in-Some-clause_of.ensures at ts)

pub returns-in-None : goal.returns-in-None
returns-in-None c = λ at ts.
    let placed = c.position.ensures c.args.text.now in
    rw c.in_default.is (misfit_taken c.args.text.now (clauses_of c.args.self.parts) c.args.tree.now c.args.notes.now.first c.note.new.self.first c.in-None.ensures refl (c.note.ensures ∙ ap (λ (p : ℕ). noted c.args.notes.now.first (shape_at p)) placed) at ts)
