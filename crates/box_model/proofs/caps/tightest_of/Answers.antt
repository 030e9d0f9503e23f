use Rattle.std.proofs.Common.{◌∷◌, filter_map, sym, subst, ◌∙◌, List}
use Rattle.std.proofs.lemmas.List.{take_all}
use Rattle.ground_task.specs.declared.raw.GCond.{GCond}
use Rattle.box_model.specs.Caps.{IsTightest}
use Rattle.box_model.specs.Demands.{infinity, moved_end}
use Rattle.box_model.proofs.CapLemmas.{tightest_start, tightest_with, tightest_without}
use Rattle.box_model.proofs.caps.tightest_of.Goals as goal
use Rattle.box_model.proofs.caps.tightest_of.Goals.{in-Some, in_default}

pub each-init : goal.each-init
each-init c = rw c.infinity-best.ensures (tightest_start c.args.side)

pub each-preserved : goal.each-preserved
each-preserved c =
    elim c.match-moved_end.branch [
      | in-Some w ↦
          tightest_with c.args.side (moved_end c.args.side c.args.q c.args.x c.args.c) c.args.conds.now c.each.cond-index c.cond-item.result c.each.best c.match-moved_end.best
          c.each-test.true c.cond-item.is c.each.invariant w.in-Some.end (sym c.moved_end.ensures ∙ w.in-Some.is) (w.best-is ∙ w.inner-best.ensures)
      | in_default w ↦
          tightest_without c.args.side (moved_end c.args.side c.args.q c.args.x c.args.c) c.args.conds.now c.each.cond-index c.cond-item.result c.each.best c.match-moved_end.best
          c.each-test.true c.cond-item.is c.each.invariant (sym c.moved_end.ensures ∙ w.in_default.is) w.best-is
    ]

pub returns : goal.returns
returns c =
    subst (λ (gs : List GCond). IsTightest c.args.side (infinity c.args.side ∷ filter_map (moved_end c.args.side c.args.q c.args.x c.args.c) gs) c.each.best)
    (take_all c.each.cond-index c.args.conds.now c.each-test.false) c.each.invariant
