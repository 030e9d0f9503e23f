-- Plain runs of a task, and plain records.
use Rattle.std.proofs.Common.{◌≡◌, ℕ, List, false, refl, ap, sym, ◌∙◌}
use Rattle.ground_task.specs.States.{StateValue}
use Rattle.ground_task.specs.Tasks.{TaskValue}
use Rattle.box_model.specs.declared.state_box.StateBox.{StateBox}
use Rattle.explored.specs.declared.classes.Most.{Most}
use Rattle.plain_runs.proofs.Entering.{OneOfEach}
use Rattle.plain_runs.proofs.OnePlain.{one_plain}
use Rattle.plain_runs.proofs.Widening.{plain_is_run}
use Rattle.plain_runs.specs.Alike.{AreAlike}
use Rattle.search_runs.specs.Nodes.{Config}
use Rattle.search_runs.specs.PlainRuns.{IsPlainRun}
use Rattle.search_runs.specs.Runs.{Run, has_starve}
use Rattle.search_runs.specs.declared.events.Event.{Event}
use Rattle.subgoal.proofs.Repeating.{atoms_repeat}
use Rattle.subgoal.proofs.Uniqueness.{one_solution}
use Rattle.subgoal.specs.Equations.{condition_value}
use Rattle.subgoal.specs.Estimates.{IsEstimate}
use Rattle.subgoal.specs.Help.{atoms_in}
use Rattle.search_records.proofs.TaskLaws.{contained_wider, goal_is_live, holding_in, least_keeps}
use Rattle.search_records.specs.Nodes.{AreWithinEachOther}
use Rattle.search_records.specs.Records.{IsLegalWithin, IsPlainWithin, config_of}
use Rattle.search_records.specs.declared.record.Record.{Record}
use Rattle.search_records.specs.Spaces.{AnyDead, plain_space_of, space_of}
use Rattle.ground_task.specs.Ranged.{ranged_goal}

pub one_estimate : (t : TaskValue) (s : StateValue) (h k : ℕ) → IsEstimate t s h → IsEstimate t s k → h ≡ k
one_estimate t s h k one other =
    one.goal
    ∙ ap (λ (v : List ℕ). condition_value (atoms_in t s) t.raw.actions v t.raw.goal) (one_solution (atoms_in t s) (atoms_repeat t s) t.raw.actions one.values other.values one.solve other.solve)
    ∙ sym other.goal

module _ (t : TaskValue) (limit : ℕ) (most : Most) where
  one_of_each : OneOfEach (plain_space_of t limit most) AreWithinEachOther
  one_of_each = record {
    kept = λ s a b least other. (least.0.least b other.0.a_box other.0.contains other.0.closed, other.0.least a least.0.a_box least.0.contains least.0.closed);
    there = λ a b s alike contains. contained_wider t.places a b s alike.0 contains;
    back = λ a b s alike contains. contained_wider t.places b a s alike.1 contains;
    keeps = λ s b keep. least_keeps t s b keep;
    goal_live = λ s goal dead. goal_is_live t s (holding_in (ranged_goal t s) goal) dead;
    estimate = λ s h k one other. one_estimate t s h k one other;
  }

  -- a plain run is a legal one of one worker
  pub plain_legal : (j : List Event) (c : Config StateValue StateBox) → IsPlainRun (plain_space_of t limit most) j c → Run (space_of t limit 1 most) j c
  plain_legal j c is = plain_is_run (plain_space_of t limit most) (AnyDead t) (λ s b keep. least_keeps t s b keep) j c is.0

  -- and there is one, but for the form of its boxes' ends
  pub plain_one : (i : List Event) (c : Config StateValue StateBox) (j : List Event) (d : Config StateValue StateBox) → IsPlainRun (plain_space_of t limit most) i c → IsPlainRun (plain_space_of t limit most) j d
      → has_starve i ≡ false → has_starve j ≡ false → AreAlike AreWithinEachOther i c j d
  plain_one i c j d is other fed fed' = one_plain (plain_space_of t limit most) AreWithinEachOther one_of_each refl i c j d is other fed fed'

-- a plain record is a legal one of one worker
pub plain_legal_record : (most : Most) (t : TaskValue) (limit : ℕ) (r : Record) → IsPlainWithin most t limit r → IsLegalWithin most t limit 1 r
plain_legal_record most t limit r is = record {
  task_is = is.task_is;
  limit_is = is.limit_is;
  run = plain_legal t limit most r.journal (config_of r) is.run;
}

pub plain_records_alike : (most : Most) (t : TaskValue) (limit : ℕ) (q r : Record) → IsPlainWithin most t limit q → IsPlainWithin most t limit r → has_starve q.journal ≡ false → has_starve r.journal ≡ false
    → AreAlike AreWithinEachOther q.journal (config_of q) r.journal (config_of r)
plain_records_alike most t limit q r is other fed fed' = plain_one t limit most q.journal (config_of q) r.journal (config_of r) is.run other.run fed fed'
