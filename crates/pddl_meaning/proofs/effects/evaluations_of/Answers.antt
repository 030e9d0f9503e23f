use Rattle.std.proofs.Common.{List, sym, ap, ◌∙◌, ◌+◌, drop}
use Rattle.std.specs.Option.{option_and_then}
use Rattle.pddl_meaning.specs.declared.effects.Evaluation.{Evaluation}
use Rattle.pddl_meaning.specs.Effects.{numeric_effects}
use Rattle.pddl_meaning.proofs.Evaluations.{after, evaluations_end, evaluations_step}
use Rattle.pddl_meaning.proofs.effects.evaluations_of.Goals as goal

pub returns-in-None : goal.returns-in-None
returns-in-None c =
    let s = c.args.binding.now in
    ap (option_and_then (λ (m : List Evaluation). after s.params.now s.args.now s.world.now m (numeric_effects s.params.now s.args.now (drop (c.each.effect-index + 1) c.args.effects.now)))) (sym c.in-None.is)
    ∙ evaluations_step s.params.now s.args.now s.world.now c.args.effects.now c.each.effect-index c.effect-item.result c.effect-item.result c.each.evaluations c.in_ok-more.field-0 c.each-test.true c.effect-item.is c.in_ok-more.ensures
    ∙ c.each.invariant

pub each-preserved : goal.each-preserved
each-preserved c =
    let s = c.args.binding.now in
    ap (option_and_then (λ (m : List Evaluation). after s.params.now s.args.now s.world.now m (numeric_effects s.params.now s.args.now (drop (c.each.effect-index + 1) c.args.effects.now)))) (sym c.in-Some.is)
    ∙ evaluations_step s.params.now s.args.now s.world.now c.args.effects.now c.each.effect-index c.effect-item.result c.effect-item.result c.each.evaluations c.in_ok-more.field-0 c.each-test.true c.effect-item.is c.in_ok-more.ensures
    ∙ c.each.invariant

pub returns : goal.returns
returns c =
    let s = c.args.binding.now in
    evaluations_end s.params.now s.args.now s.world.now c.args.effects.now c.each.effect-index c.each.evaluations c.each-test.false ∙ c.each.invariant
