use Rattle.std.proofs.Common.{sym, ◌∙◌, inr}
use Rattle.cert_check.proofs.Listed.{covered_by_line, not_covered}
use Rattle.cert_check.proofs.index.Index.covers.Goals as goal

pub returns-then-is_listed-clause-covered : goal.returns-then-is_listed-clause-covered
returns-then-is_listed-clause-covered c = λ _.
    covered_by_line c.args.task.now c.args.self.now.boxes c.args.self.now.states c.args.state.now (sym c.is_listed.ensures ∙ c.if-is_listed.true)

pub returns-clause-covered : goal.returns-clause-covered
returns-clause-covered c = λ h. inr (c.is_in_box.ensures.there h)

pub returns-clause-missing : goal.returns-clause-missing
returns-clause-missing c = λ h.
    not_covered c.args.task.now c.args.self.now.boxes c.args.self.now.states c.args.state.now (sym c.is_listed.ensures ∙ c.if-is_listed.false) (c.is_in_box.ensures.absent h)
