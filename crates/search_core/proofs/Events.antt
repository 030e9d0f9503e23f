-- Each call of a search is one event.
use Rattle.std.proofs.Common.{◌≡◌, ◌<◌, ℕ, List, [], ◌∷◌, ◌++◌, length, All, false, refl, sym, ap, subst, inl, inr, arith}
use Rattle.std.proofs.lemmas.Bool.{cases_order}
use Rattle.std.specs.Prelude.{Result, Ok, Err, IfOk, IsSome, None, OnErr, OnOk}
use Rattle.ground_task.specs.Placed.{IsPlaced}
use Rattle.ground_task.specs.States.{StateValue}
use Rattle.ground_task.specs.Tasks.{IsStateOf, TaskValue, first_state}
use Rattle.box_model.specs.Boxes.{Contains}
use Rattle.box_model.specs.Least.{IsDead}
use Rattle.box_model.specs.declared.state_box.StateBox.{StateBox}
use Rattle.explored.specs.declared.classes.Most.{Most}
use Rattle.search_nodes.proofs.Legal.{enters, gives}
use Rattle.search_nodes.specs.Growth.{FitsOutcome}
use Rattle.search_nodes.specs.Tables.{IsTakenBy, config_of}
use Rattle.search_nodes.specs.declared.views.Outcome.{Outcome}
use Rattle.search_nodes.specs.declared.views.View.{View}
use Rattle.search_runs.proofs.Places.{at_changed, at_other}
use Rattle.search_runs.proofs.Fronts.{front_of}
use Rattle.search_runs.proofs.Stability.{may_take, stays_at}
use Rattle.search_runs.proofs.Stays.{stays}
use Rattle.search_runs.proofs.Whole.{runs_hold}
use Rattle.search_runs.specs.Answers.{answer_of, first_where, is_taken}
use Rattle.search_runs.specs.Later.{Continues, MayTake, Stays}
use Rattle.search_runs.specs.Nodes.{IsNode, changed, nothing, with_status}
use Rattle.search_runs.specs.Runs.{Enters, Gives, Leads, goes_on, starts, has_starved}
use Rattle.search_runs.specs.Spaces.{IsAt}
use Rattle.search_runs.specs.declared.events.Event.{Event}
use Rattle.search_runs.specs.declared.events.Event.TheVariants.{Give, Starve, Take}
use Rattle.search_runs.specs.declared.nodes.Node.{Node}
use Rattle.search_runs.specs.declared.nodes.Status.{Status}
use Rattle.search_runs.specs.declared.nodes.Status.TheVariants.{Closed}
use Rattle.search_turns.specs.declared.turns.Taken.{Taken}
use Rattle.search_turns.specs.declared.turns.Taken.TheVariants as taken
use Rattle.search_turns.specs.Turns as turns
use Rattle.search_turns.specs.Turns.{IsGiven, IsJob, SameTerms, Turns, answer_in}
use Rattle.search_core.proofs.Meaning.{laws_in}
use Rattle.search_records.proofs.TaskLaws.{any_keeps, least_keeps}
use Rattle.search_core.proofs.TaskLaws.{fits_outcomes, right_outcomes, right_view, wider_outcomes}
use Rattle.search_core.specs.Searches.{AreAllOutcomes, CanGive, Gets, HasTaken, IsBegun, IsEvent, IsPlainlyGiven, IsSearch, space_in}
use Rattle.search_records.specs.Spaces.{AnyDead, Keeping, LeastDead, space_by}
use Rattle.search_core.specs.Views.{AreRightOutcomes, IsRightView}

pub next_search : (e : Event) (old new : Turns) → IsSearch old → IsEvent e old new → IsSearch new
next_search e old new is event = record {
  placed = rw event.terms.task is.placed;
  room = rw event.terms.most is.room;
  box_room = rw event.terms.most is.box_room;
  few_actions = rw event.terms.task is.few_actions;
  run = rw (event.terms.task, event.terms.most, event.terms.limit, event.terms.workers, event.journal) (goes_on old.journal (config_of old.table) e (config_of new.table) is.run event.leads);
}

-- ---- the start

-- a right view enters
pub entered_first : (Keeps : Keeping) → ((t : TaskValue) (s : StateValue) (b : StateBox) → Keeps t s b → IsDead t b × Contains t.places b s) → (t : TaskValue) (limit workers : ℕ) (most : Most) (found : View) (v : Turns)
    → IsRightView Keeps t (first_state t.raw t.places) found → turns.IsStarted t limit workers most found v
    → Enters (space_by Keeps t limit workers most) (first_state t.raw t.places) 0 0 nothing (config_of v.table)
entered_first Keeps keeps t limit workers most found v right is =
    enters (space_by Keeps t limit workers most) t.places most refl refl refl (λ s b keep. keeps t s b keep) (first_state t.raw t.places) 0 0 found nothing (config_of v.table)
    (right_view Keeps keeps t limit workers most (first_state t.raw t.places) found right) is.entered

pub started_search : (t : TaskValue) (limit workers : ℕ) (most : Most) (found : View) (v : Turns) → IsPlaced t.raw t.places → length t.raw.actions < 1000000000 → 0 < most.states → 0 < most.boxes → IsRightView AnyDead t (first_state t.raw t.places) found
    → turns.IsStarted t limit workers most found v → IsSearch v
started_search t limit workers most found v placed few room box_room right is = record {
  placed = rw is.task_is placed;
  room = rw is.most_is room;
  box_room = rw is.most_is box_room;
  few_actions = rw is.task_is few;
  run = rw (is.task_is, is.most_is, is.limit_is, is.workers_is, is.journal) (starts (config_of v.table) (entered_first AnyDead any_keeps t limit workers most found v right is));
}

pub begun : (t : TaskValue) (limit workers : ℕ) (most : Most) (found : View) (v : Turns) → turns.IsStarted t limit workers most found v → IsBegun t limit workers most v
begun t limit workers most found v is = record { task_is = is.task_is; most_is = is.most_is; limit_is = is.limit_is; workers_is = is.workers_is; journal = is.journal }

-- ---- a take

module _ (w : ℕ) (old new : Turns) (terms : SameTerms old new) where
  pub gets_of : (found : Taken) → IsJob w found old new → Gets w found old new
  gets_of (taken.Job n s) is = (record { terms = terms; journal = is.journal; leads = is.takes }, (is.node, is.there, is.state))
  gets_of (taken.NotYet k) is = is
  gets_of taken.Done is = is

  search_of : IsSearch old → (found : Taken) → IsJob w found old new → IsSearch new
  search_of search (taken.Job n s) is = next_search (Take w n) old new search (record { terms = terms; journal = is.journal; leads = is.takes })
  search_of search (taken.NotYet k) is = subst IsSearch (sym is.unchanged) search
  search_of search taken.Done is = subst IsSearch (sym is.0) search

  pub taken_search : {E : Type 0} (r : Result Taken E) → IsSearch old → IfOk r (λ found. IsJob w found old new) → OnErr r (new ≡ old) → IsSearch new
  taken_search (Ok found) search ok err = search_of search found ok
  taken_search (Err fault) search ok err = subst IsSearch (sym err) search

  pub taken_gets : {E : Type 0} (r : Result Taken E) → IfOk r (λ found. IsJob w found old new) → IfOk r (λ found. Gets w found old new)
  taken_gets (Ok found) ok = gets_of found ok
  taken_gets (Err fault) ok = ok

-- ---- a give

-- the state of each node has the sizes of the task
node_sized : (v : Turns) → IsSearch v → (n : ℕ) (x : Node StateValue) → IsAt v.table.nodes n x → IsStateOf v.table.task x.state
node_sized v search n x at = (runs_hold (space_in v) (laws_in v search) v.journal (config_of v.table) search.run).tree.states n x at

pub taken_sized : (w n : ℕ) (s : StateValue) (v : Turns) → IsSearch v → HasTaken w n s v → IsStateOf v.table.task s
taken_sized w n s v search has = subst (λ (k : StateValue). IsStateOf v.table.task k) has.state (node_sized v search n has.node has.there)

node_changed : (nodes : List (Node StateValue)) (n : ℕ) (st : Status) (s : StateValue) → IsNode nodes s → IsNode (with_status nodes n st) s
node_changed nodes n st s (m, x, at, is) =
    elim (cases_order m n) [
      | inl same ↦ (n, record x { status = st }, at_changed nodes n st x (subst (λ (k : ℕ). IsAt nodes k x) same at), is)
      | inr (inl less) ↦ (m, x, at_other nodes n st m x (λ e. omega (arith, less, e)) at, is)
      | inr (inr more) ↦ (m, x, at_other nodes n st m x (λ e. omega (arith, more, e)) at, is)
    ]

module _ (w n : ℕ) (outcomes : List Outcome) (old : Turns) where
  -- the outcomes lead where the relation of runs does
  given_by : (Keeps : Keeping) → ((t : TaskValue) (s : StateValue) (b : StateBox) → Keeps t s b → IsDead t b × Contains t.places b s) → CanGive Keeps w n outcomes old
      → (workers : ℕ) (new : Turns) → IsGiven w n outcomes old new → Leads (space_by Keeps old.table.task old.limit workers old.table.most) old.journal (config_of old.table) (Give w n) (config_of new.table)
  given_by Keeps keeps can workers new is =
      let space = space_by Keeps old.table.task old.limit workers old.table.most in
      record {
        node = can.node;
        there = can.there;
        taken = can.is_taken;
        after = subst (λ (k : ℕ). Gives space n can.node.state 0 k (changed n Closed (config_of old.table)) (config_of new.table)) can.as_many
            (gives space old.table.task.places old.table.most refl refl refl (λ s b keep. keeps old.table.task s b keep) old.table.nodes old.table.boxes can.node.state n outcomes 0 (changed n Closed (config_of old.table)) (config_of new.table)
            ((λ s there. node_changed old.table.nodes n Closed s there), (λ s there. there))
            (right_outcomes Keeps keeps old.table old.limit workers old.table.most can.node.state 0 outcomes can.right) is.met);
      }

  module _ (search : IsSearch old) (can : CanGive AnyDead w n outcomes old) where
    pub can_take : IsTakenBy w old.table.nodes n
    can_take = (can.node, can.there, can.is_taken)

    pub can_fit : All (FitsOutcome old.table.task) outcomes
    can_fit = fits_outcomes AnyDead any_keeps old.table search.placed can.node.state (node_sized old search n can.node can.there) 0 outcomes can.right

    pub can_few : length outcomes < 1000000000
    can_few = rw can.as_many search.few_actions

    given_event : (new : Turns) → SameTerms old new → IsGiven w n outcomes old new → IsEvent (Give w n) old new
    given_event new terms is = record { terms = terms; journal = is.journal; leads = given_by AnyDead any_keeps can old.workers new is }

    pub given_search : {A E : Type 0} (new : Turns) (r : Result A E) → SameTerms old new → OnOk r (IsGiven w n outcomes old new) → OnErr r (new ≡ old) → IsSearch new
    given_search new (Ok x) terms ok err = next_search (Give w n) old new search (given_event new terms ok)
    given_search new (Err fault) terms ok err = subst IsSearch (sym err) search

    pub given_ok : {A E : Type 0} (new : Turns) (r : Result A E) → SameTerms old new → OnOk r (IsGiven w n outcomes old new) → OnOk r (IsEvent (Give w n) old new)
    given_ok new (Ok x) terms ok = given_event new terms ok
    given_ok new (Err fault) terms ok = ok

  -- the same where least closed boxes alone are kept
  module _ (can : CanGive LeastDead w n outcomes old) where
    pub can_any : CanGive AnyDead w n outcomes old
    can_any = record { node = can.node; there = can.there; is_taken = can.is_taken; as_many = can.as_many; right = wider_outcomes old.table can.node.state 0 outcomes can.right }

    pub plainly_given : {A E : Type 0} (new : Turns) (r : Result A E) → OnOk r (IsGiven w n outcomes old new) → OnOk r (IsPlainlyGiven w n old new)
    plainly_given new (Ok x) ok = given_by LeastDead least_keeps can 1 new ok
    plainly_given new (Err fault) ok = ok

  pub can_found : (s : StateValue) → HasTaken w n s old → AreAllOutcomes LeastDead old.table s outcomes → CanGive LeastDead w n outcomes old
  can_found s has all = record {
    node = has.node;
    there = has.there;
    is_taken = has.is_taken;
    as_many = all.0;
    right = subst (λ (k : StateValue). AreRightOutcomes LeastDead old.table k 0 outcomes) (sym has.state) all.1;
  }

pub all_can_give : {E : Type 0} (w n : ℕ) (s : StateValue) (v : Turns) (r : Result (List Outcome) E) → HasTaken w n s v → IfOk r (AreAllOutcomes LeastDead v.table s) → IfOk r (λ outcomes. CanGive LeastDead w n outcomes v)
all_can_give w n s v (Ok outcomes) has all = can_found w n outcomes v s has all
all_can_give w n s v (Err fault) has all = all

-- ---- a starve

pub starved_event : (w : ℕ) (old new : Turns) → w < old.workers → has_starved w old.journal ≡ false → new ≡ record old { journal = old.journal ++ Starve w ∷ [] } → IsEvent (Starve w) old new
starved_event w old new worker once is = record {
  terms = record { task = ap (λ v. v.table.task) is; most = ap (λ v. v.table.most) is; limit = ap (λ v. v.limit) is; workers = ap (λ v. v.workers) is };
  journal = ap (λ v. v.journal) is;
  leads = record { worker = worker; once = once; after = ap (λ v. config_of v.table) is };
}

-- ---- what stays

pub answer_stays : (e : Event) (old new : Turns) → IsEvent e old new → IsSome (answer_in old) → IsSome (answer_in new)
answer_stays e old new is some =
    let after : IsSome (answer_of old.limit (old.journal ++ e ∷ []) (config_of new.table)) = stays (space_in old) old.journal (config_of old.table) e (config_of new.table) is.leads some in
    rw (is.terms.limit, is.journal) after

pub node_stays : (e : Event) (old new : Turns) (n : ℕ) (x : Node StateValue) → IsEvent e old new → IsAt old.table.nodes n x → Stays e n x (config_of new.table)
node_stays e old new n x is at = stays_at (space_in old) old.journal (config_of old.table) e (config_of new.table) is.leads n x at

pub nodes_continue : (v : Turns) (before more : List Event) → IsSearch v → v.journal ≡ before ++ more → 0 < length before → Continues (space_in v) before more (config_of v.table)
nodes_continue v before more is journal some = front_of (space_in v) v.journal (config_of v.table) is.run before more journal some

pub worker_may_take : (v : Turns) (w : ℕ) → w < v.workers → answer_in v ≡ None → first_where is_taken v.table.nodes ≡ None → MayTake (space_in v) v.journal (config_of v.table) w
worker_may_take v w worker none idle = may_take (space_in v) v.journal (config_of v.table) w worker none idle
