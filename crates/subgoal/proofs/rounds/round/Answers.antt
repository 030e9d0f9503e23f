use Rattle.std.proofs.Common.{◌∙◌, List, ℕ, ap, arith, sum, sym}
use Rattle.std.specs.Cmp.Lexicographic.{other_text}
use Rattle.subgoal.specs.Equations.{values_by}
use Rattle.subgoal.specs.Help.{atoms_in}
use Rattle.subgoal.proofs.Improving.{round_lower}
use Rattle.subgoal.proofs.rounds.round.Goals as goal

pub returns-clause-lowered : goal.returns-clause-lowered
returns-clause-lowered c =
    let t = c.args.rules.now.task.now in
    let old = c.args.values.now.items in
    let new = c.evaluate.new.next.items in
    let less = round_lower t c.args.state.now old new c.requires.above
    (c.evaluate.ensures.next ∙ ap (λ (v : List ℕ). values_by (atoms_in t c.args.state.now) t.raw.actions v t.raw.actions) c.as_slice.ensures.value)
    (λ same. other_text c.as_slice-2.result.now c.as_slice-3.result.now c.if-eq.ensures (c.as_slice-2.ensures.value ∙ same ∙ sym c.as_slice-3.ensures.value)) in
    omega (arith, less, ap (λ v. sum v.items) c.swap.ensures.x_after)
