-- A task has the laws of a space.
use Rattle.std.proofs.Common.{◌≡◌, ◌<◌, ℕ, false, List, [], slice_index_or, refl, sym, ap, ◌∙◌, subst}
use Rattle.num_ends.proofs.Members.{has_within}
use Rattle.ground_task.proofs.Agreement.{blocked_leads_nowhere, next_leads, only_next, yes_holds}
use Rattle.ground_task.proofs.StateNumbers.{first_is_initial, step_keeps_sizes}
use Rattle.ground_task.specs.declared.answers.Applied.{Applied}
use Rattle.ground_task.specs.declared.answers.Applied.TheVariants as step
use Rattle.ground_task.specs.declared.answers.Truth.{Truth}
use Rattle.ground_task.specs.declared.answers.Truth.TheVariants as truth
use Rattle.ground_task.specs.Meaning.{fluent_value}
use Rattle.ground_task.specs.Placed.{IsPlaced}
use Rattle.ground_task.specs.Ranged.{ranged_goal, ranged_step}
use Rattle.ground_task.specs.States.{StateValue}
use Rattle.ground_task.specs.Tasks.{TaskValue}
use Rattle.box_model.proofs.Closed.{no_plan}
use Rattle.box_model.proofs.Monotony.{may_be_wider}
use Rattle.box_model.specs.Boxes.{fact_in, fluent_in, Contains, LiesWithin}
use Rattle.box_model.specs.Least.{IsDead}
use Rattle.box_model.specs.declared.state_box.StateBox.{StateBox}
use Rattle.dead_ends.proofs.Proved.{step_known}
use Rattle.dead_ends.specs.Reachable.{IsDeadState}
use Rattle.explored.specs.declared.classes.Most.{Most}
use Rattle.search_runs.proofs.Holds.{Laws}
use Rattle.search_runs.specs.Spaces as runs
use Rattle.search_runs.specs.Spaces.{Space}
use Rattle.search_records.specs.Spaces.{AnyDead, Keeping, LeastDead, space_by, stepped_in, truth_in}

pub next_in : (x : Applied) (n : StateValue) → stepped_in x ≡ runs.Next n → x ≡ step.Next n
next_in step.Blocked n e = cc
next_in step.Over n e = cc
next_in (step.Next s) n e = let same : s ≡ n = cc in ap step.Next same

pub blocked_in : (x : Applied) → stepped_in x ≡ runs.Blocked → x ≡ step.Blocked
blocked_in step.Blocked e = refl
blocked_in step.Over e = cc
blocked_in (step.Next s) e = cc

pub over_in : (x : Applied) → stepped_in x ≡ runs.Over → x ≡ step.Over
over_in step.Blocked e = cc
over_in step.Over e = refl
over_in (step.Next s) e = cc

pub holding_in : (x : Truth) → truth_in x ≡ runs.Yes → x ≡ truth.Yes
holding_in truth.Yes e = refl
holding_in truth.No e = cc
holding_in truth.Over e = cc

pub failing_in : (x : Truth) → truth_in x ≡ runs.No → x ≡ truth.No
failing_in truth.Yes e = cc
failing_in truth.No e = refl
failing_in truth.Over e = cc

pub overflow_in : (x : Truth) → truth_in x ≡ runs.Overflow → x ≡ truth.Over
overflow_in truth.Yes e = cc
overflow_in truth.No e = cc
overflow_in truth.Over e = refl

pub goal_is_live : (t : TaskValue) (s : StateValue) → ranged_goal t s ≡ truth.Yes → IsDeadState t s → ⊥
goal_is_live t s is dead = no_plan t dead.0 dead.1.a_box dead.1 [] s dead.2 (s, refl, yes_holds t s t.raw.goal is)

module _ (Keeps : Keeping) (keeps : (t : TaskValue) (s : StateValue) (b : StateBox) → Keeps t s b → IsDead t b × Contains t.places b s) where
  pub laws_of : (t : TaskValue) (limit workers : ℕ) (most : Most) → IsPlaced t.raw t.places → 0 < most.states → 0 < most.boxes → Laws (space_by Keeps t limit workers most)
  laws_of t limit workers most placed room box_room = record {
    initial = (first_is_initial t placed).sizes;
    states = λ a s n is_state next. step_keeps_sizes t s n a is_state (next_leads t s a n placed (next_in (ranged_step t s a) n next));
    next = λ a s n within next. next_leads t s a n placed (next_in (ranged_step t s a) n next);
    only = λ a s n u next leads. only_next t s a n u placed (next_in (ranged_step t s a) n next) leads;
    blocked = λ a s n blocked leads. blocked_leads_nowhere t s a n (blocked_in (ranged_step t s a) blocked) leads;
    known = λ a s n leads. step_known t a s n leads;
    keeps = λ s b keep. keeps t s b keep;
    goal_live = λ s goal dead. goal_is_live t s (holding_in (ranged_goal t s) goal) dead;
    room = room;
    box_room = box_room;
  }

pub any_keeps : (t : TaskValue) (s : StateValue) (b : StateBox) → AnyDead t s b → IsDead t b × Contains t.places b s
any_keeps t s b is = is

pub least_keeps : (t : TaskValue) (s : StateValue) (b : StateBox) → LeastDead t s b → IsDead t b × Contains t.places b s
least_keeps t s b is = (is.1, is.0.contains)

-- what a box contains is contained in each box around it
pub contained_wider : (places : List ℕ) (b around : StateBox) (s : StateValue) → LiesWithin b around → Contains places b s → Contains places around s
contained_wider places b around s within contains = record {
  as_many_facts = contains.as_many_facts ∙ within.as_many_facts;
  as_many_values = contains.as_many_values ∙ within.as_many_fluents;
  facts = λ f h.
      (let k = subst (λ (n : ℕ). f < n) (sym within.as_many_facts) h in
      may_be_wider (fact_in b f) (fact_in around f) (slice_index_or s.facts f false) (within.facts f k) (contains.facts f k));
  fluents = λ x h.
      (let k = subst (λ (n : ℕ). x < n) (sym within.as_many_fluents) h in
      has_within (fluent_in b x) (fluent_in around x) (fluent_value places s x) (within.fluents x k) (contains.fluents x k));
}
