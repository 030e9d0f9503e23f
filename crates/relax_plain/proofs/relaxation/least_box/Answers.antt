use Rattle.std.proofs.Common.{◌≡◌, ◌<◌, ◌∙◌, ℕ, false, length, ap, subst, sym, length-set}
use Rattle.std.proofs.lemmas.Bool.{both_ways}
use Rattle.ground_task.specs.declared.raw.RawTask.{RawTask}
use Rattle.relax_plain.specs.Marks.{is_marked}
use Rattle.relax_plain.proofs.MarkLemmas.{all_marked, length_all}
use Rattle.relax_plain.proofs.Settling.{all_closed, in_list, least_closed, less_work, settled_step}
use Rattle.relax_plain.proofs.Spreads.{grown_start, grown_trans}
use Rattle.relax_plain.proofs.relaxation.least_box.Goals as goal

pub actions-init : goal.actions-init
actions-init c =
    let t = c.args.task.now in
    let many : c.len.result ≡ length t.raw.actions = c.len.ensures ∙ ap (λ (r : RawTask). length r.actions) c.raw.ensures.value in
    record {
      grown = grown_start t c.in_ok-state_box.state_box c.in_ok-state_box.ensures.of_task;
      as_many = ap length c.in_ok-marks.ensures ∙ length_all c.len.result ∙ many;
      settled = λ number a at clean. absurd (both_ways (is_marked c.in_ok-marks.marks number) clean
          (ap (λ ms. is_marked ms number) c.in_ok-marks.ensures ∙ all_marked c.len.result number (subst (λ (n : ℕ). number < n) (sym many) (in_list t.raw.actions number a at))));
    }

pub actions-preserved : goal.actions-preserved
actions-preserved c =
    let t = c.args.task.now in
    let spread = c.settled-state_box.ensures.spread in
    let cleared = c.in-Some.ensures in
    record {
      grown = grown_trans t c.in_ok-state_box.state_box c.actions.state_box c.settled-state_box.result c.actions.invariant.grown spread.grown;
      as_many = spread.as_many ∙ ap length cleared.2 ∙ length-set c.actions.marks c.in-Some.number false ∙ c.actions.invariant.as_many;
      settled = settled_step t c.actions.state_box c.settled-state_box.result c.actions.marks c.next.new.self c.settled-state_box.new.marks c.in-Some.number
          c.actions.invariant.grown.a_box c.actions.invariant.settled cleared.2 spread c.settled-state_box.ensures.met;
    }

pub actions-smaller : goal.actions-smaller
actions-smaller c =
    let t = c.args.task.now in
    let spread = c.settled-state_box.ensures.spread in
    let cleared = c.in-Some.ensures in
    less_work t c.actions.state_box c.settled-state_box.result c.actions.marks c.next.new.self c.settled-state_box.new.marks c.in-Some.number
    c.actions.invariant.as_many cleared.0 cleared.1 cleared.2 spread.as_many (ap length cleared.2 ∙ length-set c.actions.marks c.in-Some.number false) spread.progress

pub returns-in-None : goal.returns-in-None
returns-in-None c =
    let t = c.args.task.now in
    least_closed t c.args.state.now c.in_ok-state_box.state_box c.actions.state_box c.in_ok-state_box.ensures.contains c.in_ok-state_box.ensures.least c.actions.invariant.grown
    (all_closed t c.actions.state_box c.actions.marks c.actions.invariant.settled c.in-None.ensures.0)
