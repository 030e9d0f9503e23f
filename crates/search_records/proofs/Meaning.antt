-- What the answer and the nodes of a run over a task mean, and those of a legal record.
use Rattle.std.proofs.Common.{◌≡◌, ◌<◌, ℕ, List, [], ◌∷◌, Some, sym, ap, ◌∙◌, inl, inr}
use Rattle.ground_task.proofs.Agreement.{yes_holds}
use Rattle.ground_task.proofs.StateNumbers.{first_is_initial}
use Rattle.ground_task.specs.Placed.{IsPlaced}
use Rattle.ground_task.specs.Ranged.{ranged_goal, ranged_step}
use Rattle.ground_task.specs.States.{StateValue}
use Rattle.ground_task.specs.Steps.{PlanLeads}
use Rattle.ground_task.specs.Tasks.{TaskValue}
use Rattle.box_model.specs.declared.state_box.StateBox.{StateBox}
use Rattle.dead_ends.specs.Certificates as certificates
use Rattle.dead_ends.specs.Reachable.{initial_state}
use Rattle.explored.specs.declared.classes.Most.{Most}
use Rattle.search_runs.proofs.Holds.{Laws}
use Rattle.search_runs.proofs.Theorem.{answers_mean, statuses_are_right}
use Rattle.search_runs.specs.Answers.{answer_of, path_to}
use Rattle.search_runs.specs.Meanings as meanings
use Rattle.search_runs.specs.Nodes.{Config}
use Rattle.search_runs.specs.Spaces.{IsAt, Space, Walk}
use Rattle.search_runs.specs.declared.answers.Answer.{Answer}
use Rattle.search_runs.specs.declared.answers.Answer.TheVariants as answer
use Rattle.search_runs.specs.declared.answers.Full.TheVariants.{States, Boxes}
use Rattle.search_runs.specs.declared.answers.Site.{Site}
use Rattle.search_runs.specs.declared.answers.Site.TheVariants as site
use Rattle.search_runs.specs.declared.events.Event.{Event}
use Rattle.search_runs.specs.declared.nodes.Node.{Node}
use Rattle.search_runs.specs.declared.nodes.Status.{Status}
use Rattle.search_runs.specs.declared.nodes.Status.TheVariants.{Waiting, Taken, Closed, Goal, Dead}
use Rattle.search_records.proofs.TaskLaws.{any_keeps, blocked_in, failing_in, holding_in, laws_of, next_in, over_in, overflow_in}
use Rattle.search_records.specs.Claims.{Claims, IsOverAt}
use Rattle.search_records.specs.Nodes.{IsRightStatus}
use Rattle.search_records.specs.Records.{IsLegalWithin, answer_in, config_of}
use Rattle.search_records.specs.declared.record.Record.{Record}
use Rattle.search_records.specs.Spaces.{AnyDead, space_of, truth_in}

walk_leads : (t : TaskValue) (limit workers : ℕ) (most : Most) (actions : List ℕ) (s last : StateValue) → Walk (space_of t limit workers most) actions s last → PlanLeads t actions s last
walk_leads t limit workers most [] s last is = is
walk_leads t limit workers most (a ∷ rest) s last (next, step_leads, walk) = (next, step_leads, walk_leads t limit workers most rest next last walk)

module _ (t : TaskValue) (limit workers : ℕ) (most : Most) (j : List Event) (c : Config StateValue StateBox) where
  abbrev space : Space StateValue StateBox
  space = space_of t limit workers most

  pub path_leads : (n : ℕ) (s : StateValue) → meanings.IsPathTo space c.nodes n s → PlanLeads t (path_to c.nodes n) (initial_state t) s
  path_leads n s path = walk_leads t limit workers most (path_to c.nodes n) (initial_state t) s path.leads

  pub over_at : (s : StateValue) (p : Site) → meanings.IsOverAt space s p → IsOverAt t s p
  over_at s site.Goal is = overflow_in (ranged_goal t s) is
  over_at s (site.Action a) is = (is.0, over_in (ranged_step t s a) is.1)

  proved : (states : List StateValue) → meanings.IsProved space c.boxes states → certificates.IsProved t c.boxes states
  proved states is = record {
    dead = is.dead;
    misses = λ s listed. failing_in (ranged_goal t s) (is.misses s listed);
    steps = λ s a listed known.
        elim (is.steps s a listed known) [
          | inl blocked ↦ inl (blocked_in (ranged_step t s a) blocked)
          | inr (next, is_next, covered) ↦ inr (next, next_in (ranged_step t s a) next is_next, covered)
        ];
    initial = is.initial;
  }

  pub claims : IsPlaced t.raw t.places → (a : Answer) → meanings.Means space j c a → Claims t limit most j c a
  claims placed (answer.Plan n) (s, path, goal) =
      (initial_state t, first_is_initial t placed, (s, path_leads n s path, yes_holds t s t.raw.goal (holding_in (ranged_goal t s) goal)))
  claims placed answer.Exhausted (is, exactly) = (proved _ is, exactly)
  claims placed (answer.Over n place) (s, path, over) = (s, path_leads n s path, over_at s place over)
  claims placed answer.Expansions is = is
  claims placed (answer.Filled States) is = is
  claims placed (answer.Filled Boxes) is = is
  claims placed answer.Starved is = is

  pub right_status : (boxes : List StateBox) (s : StateValue) (st : Status) → meanings.IsRightFor space boxes s st → IsRightStatus t workers boxes s st
  right_status boxes s (Waiting h) is = (is.0, is.1, λ e. is.2 (ap truth_in e))
  right_status boxes s (Taken w) is = (is.0, is.1, λ e. is.2 (ap truth_in e))
  right_status boxes s Closed is = (is.0, λ e. is.1 (ap truth_in e))
  right_status boxes s Goal is = (is.0, holding_in (ranged_goal t s) is.1)
  right_status boxes s (Dead b) is = is

module _ (most : Most) (room : 0 < most.states) (box_room : 0 < most.boxes) where
  pub laws_at : (t : TaskValue) (limit workers : ℕ) → IsPlaced t.raw t.places → Laws (space_of t limit workers most)
  laws_at t limit workers placed = laws_of AnyDead any_keeps t limit workers most placed room box_room

  pub legal_claims : (t : TaskValue) (limit workers : ℕ) (r : Record) (a : Answer) → IsPlaced t.raw t.places → IsLegalWithin most t limit workers r → answer_in r ≡ Some a → Claims t limit most r.journal (config_of r) a
  legal_claims t limit workers r a placed is found =
      claims t limit workers most r.journal (config_of r) placed a
      (answers_mean (space_of t limit workers most) (laws_at t limit workers placed) r.journal (config_of r) is.run a (ap (λ k. answer_of k r.journal (config_of r)) (sym is.limit_is) ∙ found))

  pub legal_statuses : (t : TaskValue) (limit workers : ℕ) (r : Record) (n : ℕ) (x : Node StateValue) → IsPlaced t.raw t.places → IsLegalWithin most t limit workers r → IsAt r.nodes n x → IsRightStatus t workers r.boxes x.state x.status
  legal_statuses t limit workers r n x placed is at =
      right_status t limit workers most r.journal (config_of r) r.boxes x.state x.status
      (statuses_are_right (space_of t limit workers most) (laws_at t limit workers placed) r.journal (config_of r) is.run n x at)
