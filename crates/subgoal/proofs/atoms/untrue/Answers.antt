use Rattle.std.proofs.Common.{List, ℕ, ap, ap₂, sym, ◌∙◌, length, map}
use Rattle.ground_task.specs.declared.raw.Ground.{Ground}
use Rattle.subgoal.specs.Equations.{least_of}
use Rattle.subgoal.specs.Help.{help_by_reads}
use Rattle.subgoal.specs.Leaves.{reached_at}
use Rattle.subgoal.specs.Unmet.{help_by_value}
use Rattle.subgoal.proofs.Helpers.{formless_least, gains_long, unvalued_least, valued_least}
use Rattle.subgoal.proofs.atoms.untrue.Goals as goal

pub returns-in_default : goal.returns-in_default
returns-in_default c =
    let view = c.args.view.now in
    formless_least view.task.now.raw.actions view.values.now c.requires.right.as_many c.args.leaf.now view.task.now.places view.state.now c.args.rel c.args.left.now c.args.right.now
    c.unmet_value.result c.requires.leaf c.in_default.is
    (c.unmet_value.ensures ∙ ap (λ (hs : List ℕ). least_of (map (reached_at (help_by_reads c.args.left.now c.args.right.now) view.task.now.raw.actions view.values.now) hs)) c.as_slice.ensures)

pub returns-in_default-value_in : goal.returns-in_default-value_in
returns-in_default-value_in c =
    let view = c.args.view.now in
    unvalued_least view.task.now.raw.actions view.values.now c.requires.right.as_many c.args.leaf.now view.task.now.places view.state.now c.args.rel c.args.left.now c.args.right.now
    c.in-Some.form c.unmet_value-in_default-value_in.result c.requires.leaf c.in-Some.is (sym c.value_in.ensures ∙ c.in_default-value_in.is)
    (c.unmet_value-in_default-value_in.ensures
    ∙ ap (λ (hs : List ℕ). least_of (map (reached_at (help_by_reads c.args.left.now c.args.right.now) view.task.now.raw.actions view.values.now) hs)) c.as_slice-in_default-value_in.ensures)

pub least_by_gains-requires-clause-long : goal.least_by_gains-requires-clause-long
least_by_gains-requires-clause-long c =
    let view = c.args.view.now in
    ap length c.as_slice-3.ensures
    ∙ gains_long view.task.now.raw.actions view.values.now c.requires.right.as_many c.args.leaf.now c.args.rel c.args.left.now c.args.right.now c.in-Some.form c.requires.leaf c.in-Some.is
    ∙ sym (ap length c.as_slice-2.ensures)

pub returns : goal.returns
returns c =
    let view = c.args.view.now in
    let f = c.in-Some.form in
    let v = c.in-Some-value_in.value in
    valued_least view.task.now.raw.actions view.values.now c.requires.right.as_many c.args.leaf.now view.task.now.places view.state.now c.args.rel c.args.left.now c.args.right.now
    f v c.least_by_gains.result c.requires.leaf c.in-Some.is (sym c.value_in.ensures ∙ c.in-Some-value_in.is)
    (c.least_by_gains.ensures
    ∙ ap₂ (λ (those : List Ground) (hs : List ℕ). least_of (map (reached_at (help_by_value f v) those view.values.now) hs)) (c.as_slice-actions.ensures ∙ ap (λ r. r.actions) c.raw.ensures.value) c.as_slice-2.ensures)
