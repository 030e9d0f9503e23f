-- Where a search has room for what may be reached it finds a plan, or that there is none.
use Rattle.std.proofs.Common.{◌≡◌, ◌≢◌, ◌<◌, ℕ, Bool, true, false, if◌then◌else◌, List, [], ◌∷◌, Option, Some, None, nat_lt, refl, sym, ap, ap₂, subst, ◌∙◌, inl, inr, arith}
use Rattle.ground_task.proofs.Agreement.{yes_holds}
use Rattle.ground_task.specs.Placed.{IsPlaced}
use Rattle.ground_task.specs.Ranged.{ranged_goal}
use Rattle.ground_task.specs.States.{StateValue}
use Rattle.ground_task.specs.Tasks.{TaskValue}
use Rattle.box_model.proofs.Closed.{no_plan}
use Rattle.box_model.specs.declared.state_box.StateBox.{StateBox}
use Rattle.dead_ends.specs.Reachable.{initial_state, IsDeadNeighbour, IsDeadState, IsLiveReachable}
use Rattle.explored.specs.declared.classes.Most.{Most}
use Rattle.search_runs.proofs.Holds.{Holds, IsAlive, IsSite, Laws}
use Rattle.search_runs.proofs.Theorem.{answers_mean}
use Rattle.search_runs.proofs.Whole.{runs_hold}
use Rattle.search_runs.specs.Answers.{answer_of, first_where, is_goal, is_taken, is_waiting, path_to, when_idle}
use Rattle.search_runs.specs.Meanings as meanings
use Rattle.search_runs.specs.Nodes.{Config}
use Rattle.search_runs.specs.Runs.{count_takes, has_starve}
use Rattle.search_runs.specs.Spaces.{AtMost, Space}
use Rattle.search_runs.specs.declared.answers.Answer.{Answer}
use Rattle.search_runs.specs.declared.answers.Answer.TheVariants as answer
use Rattle.search_runs.specs.declared.answers.Full.{Full}
use Rattle.search_runs.specs.declared.answers.Full.TheVariants.{States, Boxes}
use Rattle.search_runs.specs.declared.answers.Site.{Site}
use Rattle.search_runs.specs.declared.answers.Site.TheVariants as site
use Rattle.search_runs.specs.declared.events.Event.{Event}
use Rattle.search_runs.specs.declared.nodes.Status.{Status}
use Rattle.search_runs.specs.declared.nodes.Status.TheVariants.{Waiting, Taken, Closed, Goal, Dead}
use Rattle.search_records.proofs.Meaning.{laws_at, over_at, path_leads}
use Rattle.search_records.proofs.TaskLaws.{holding_in}
use Rattle.search_records.specs.Claims.{IsLiveOrNear, IsOverAt}
use Rattle.search_records.specs.Complete.{HasRoom, IsDecided}
use Rattle.search_records.specs.Records.{answer_in, config_of, IsLegalWithin}
use Rattle.search_records.specs.Spaces.{space_of}
use Rattle.search_records.specs.declared.record.Record.{Record}

-- ---- the site of an answer

module _ {S B : Type 0} (limit : ℕ) (j : List Event) (c : Config S B) (n : ℕ) (place : Site) where
  by_site : (o : Option (ℕ × Site)) → c.over ≡ o → (elim o as (λ _. Option Answer) [ Some p ↦ Some (answer.Over p.0 p.1) | None ↦ Some answer.Exhausted ]) ≡ Some (answer.Over n place) → c.over ≡ Some (n, place)
  by_site (Some p) e is =
      let number : p.0 ≡ n = cc in
      let spot : p.1 ≡ place = cc in
      e ∙ ap₂ (λ (k : ℕ) (q : Site). Some (k, q)) number spot
  by_site None e is = cc

  by_limit : (b : Bool) → (if b then None else Some answer.Expansions) ≡ Some (answer.Over n place) → c.over ≡ Some (n, place)
  by_limit true is = cc
  by_limit false is = cc

  by_waiting : (o : Option ℕ) → (elim o as (λ _. Option Answer) [ Some m ↦ if nat_lt (count_takes j) limit then None else Some answer.Expansions | None ↦ elim c.over [ Some p ↦ Some (answer.Over p.0 p.1) | None ↦ Some answer.Exhausted ] ]) ≡ Some (answer.Over n place) → c.over ≡ Some (n, place)
  by_waiting (Some m) is = by_limit (nat_lt (count_takes j) limit) is
  by_waiting None is = by_site c.over refl is

  by_mark : (o : Option Full) → (elim o as (λ _. Option Answer) [ Some f ↦ Some (answer.Filled f) | None ↦ elim (first_where is_waiting c.nodes) [ Some m ↦ if nat_lt (count_takes j) limit then None else Some answer.Expansions | None ↦ elim c.over [ Some p ↦ Some (answer.Over p.0 p.1) | None ↦ Some answer.Exhausted ] ] ]) ≡ Some (answer.Over n place)
      → c.over ≡ Some (n, place)
  by_mark (Some f) is = cc
  by_mark None is = by_waiting (first_where is_waiting c.nodes) is

  by_taken : (o : Option ℕ) → (elim o as (λ _. Option Answer) [ Some m ↦ None | None ↦ when_idle limit j c ]) ≡ Some (answer.Over n place) → c.over ≡ Some (n, place)
  by_taken (Some m) is = cc
  by_taken None is = by_mark c.full is

  by_starve : (b : Bool) → (if b then Some answer.Starved else elim (first_where is_taken c.nodes) as (λ _. Option Answer) [ Some m ↦ None | None ↦ when_idle limit j c ]) ≡ Some (answer.Over n place) → c.over ≡ Some (n, place)
  by_starve true is = cc
  by_starve false is = by_taken (first_where is_taken c.nodes) is

  by_goal : (o : Option ℕ) → (elim o as (λ _. Option Answer) [ Some m ↦ Some (answer.Plan m) | None ↦ if has_starve j then Some answer.Starved else elim (first_where is_taken c.nodes) [ Some m ↦ None | None ↦ when_idle limit j c ] ]) ≡ Some (answer.Over n place) → c.over ≡ Some (n, place)
  by_goal (Some m) is = cc
  by_goal None is = by_starve (has_starve j) is

  -- it is the one that was noted
  over_noted : answer_of limit j c ≡ Some (answer.Over n place) → c.over ≡ Some (n, place)
  over_noted is = by_goal (first_where is_goal c.nodes) is

-- ---- what may be reached from a dead state

module _ (t : TaskValue) (dead : IsDeadState t (initial_state t)) where
  none_reachable : (s : StateValue) → IsLiveReachable t s → ⊥
  none_reachable s ([], walk) = walk.0 dead
  none_reachable s (a ∷ actions, walk) = walk.0 dead

  near_is_first : (s : StateValue) → IsDeadNeighbour t s → s ≡ initial_state t
  near_is_first s (is, inl same) = same
  near_is_first s (is, inr (p, a, reached, leads)) = absurd (none_reachable p reached)

  either_is_first : (s : StateValue) → IsLiveOrNear t s → s ≡ initial_state t
  either_is_first s (inl reached) = absurd (none_reachable s reached)
  either_is_first s (inr near) = near_is_first s near

  -- one state alone has such a property
  one_at_most : (P : StateValue → Type 0) (n : ℕ) → 0 < n → ((s : StateValue) → P s → s ≡ initial_state t) → AtMost n P
  one_at_most P n some only [] apart all = omega arith
  one_at_most P n some only (x ∷ []) apart all = omega (arith, some)
  one_at_most P n some only (x ∷ y ∷ xs) apart all =
      absurd (apart 0 1 x (omega arith) (omega arith) (only x (all 0 x (omega arith)) ∙ sym (only y (all 1 x (omega arith)))))

  none_at_most : (n : ℕ) → AtMost n (IsLiveReachable t)
  none_at_most n [] apart all = omega arith
  none_at_most n (x ∷ xs) apart all = absurd (none_reachable x (all 0 x (omega arith)))

  dead_has_room : (limit : ℕ) (most : Most) → 0 < most.states → 0 < most.boxes → HasRoom t limit most
  dead_has_room limit most room box_room = record {
    expansions = none_at_most limit;
    states = one_at_most (IsLiveOrNear t) most.states room either_is_first;
    boxes = one_at_most (IsDeadNeighbour t) most.boxes box_room near_is_first;
    in_range = λ s p reached over. none_reachable s reached;
  }

-- ---- records

module _ (most : Most) (room : 0 < most.states) (box_room : 0 < most.boxes) (t : TaskValue) (limit workers : ℕ) (placed : IsPlaced t.raw t.places) (r : Record) (is : IsLegalWithin most t limit workers r) where
  abbrev space : Space StateValue StateBox
  space = space_of t limit workers most

  laws : Laws space
  laws = laws_at most room box_room t limit workers placed

  holds : Holds space r.journal (config_of r) None
  holds = runs_hold space laws r.journal (config_of r) is.run

  means : (a : Answer) → answer_in r ≡ Some a → meanings.Means space r.journal (config_of r) a
  means a found = answers_mean space laws r.journal (config_of r) is.run a (ap (λ k. answer_of k r.journal (config_of r)) (sym is.limit_is) ∙ found)

  alive_reachable : (s : StateValue) (st : Status) → meanings.IsRightFor space r.boxes s st → IsAlive st → IsLiveReachable t s
  alive_reachable s (Waiting h) right alive = right.0
  alive_reachable s (Taken w) right alive = right.1
  alive_reachable s Closed right alive = right.0
  alive_reachable s Goal right alive = right.0
  alive_reachable s (Dead b) right alive = absurd alive

  -- a number leaves its range in a live reachable state
  site_reachable : (n : ℕ) (p : Site) → IsSite space r.nodes n p → (s : StateValue) × IsLiveReachable t s × IsOverAt t s p
  site_reachable n site.Goal (x, at, alive, over) =
      (x.state, alive_reachable x.state x.status (holds.classed.classes n x at) alive, over_at t limit workers most r.journal (config_of r) x.state site.Goal over)
  site_reachable n (site.Action a) (x, at, closed, known, over) =
      let right : meanings.IsRightFor space r.boxes x.state Closed = subst (meanings.IsRightFor space r.boxes x.state) closed (holds.classed.classes n x at) in
      (x.state, right.0, over_at t limit workers most r.journal (config_of r) x.state (site.Action a) (known, over))

  pub decided : (a : Answer) → answer_in r ≡ Some a → a ≢ answer.Starved → HasRoom t limit most → IsDecided a
  decided (answer.Plan n) found told has = tt
  decided answer.Exhausted found told has = tt
  decided (answer.Over n place) found told has =
      let (s, reached, over) = site_reachable n place (holds.noted.site n place (over_noted r.limit r.journal (config_of r) n place found)) in
      has.in_range s place reached over
  decided answer.Expansions found told has = (means answer.Expansions found).1 has.expansions
  decided (answer.Filled States) found told has = means (answer.Filled States) found has.states
  decided (answer.Filled Boxes) found told has = means (answer.Filled Boxes) found has.boxes
  decided answer.Starved found told has = told refl

  -- no plan leads on from a dead state
  no_plan_from : IsDeadState t (initial_state t) → (n : ℕ) → answer_in r ≡ Some (answer.Plan n) → ⊥
  no_plan_from (b, dead, inside) n found =
      let (s, path, goal) = means (answer.Plan n) found in
      no_plan t b dead.a_box dead (path_to r.nodes n) (initial_state t) inside
      (s, path_leads t limit workers most r.journal (config_of r) n s path, yes_holds t s t.raw.goal (holding_in (ranged_goal t s) goal))

  dead_exhausted : IsDeadState t (initial_state t) → (a : Answer) → answer_in r ≡ Some a → IsDecided a → a ≡ answer.Exhausted
  dead_exhausted dead (answer.Plan n) found is = absurd (no_plan_from dead n found)
  dead_exhausted dead answer.Exhausted found is = refl
  dead_exhausted dead (answer.Over n place) found is = absurd is
  dead_exhausted dead answer.Expansions found is = absurd is
  dead_exhausted dead (answer.Filled full) found is = absurd is
  dead_exhausted dead answer.Starved found is = absurd is

  pub dead_start : (a : Answer) → answer_in r ≡ Some a → a ≢ answer.Starved → IsDeadState t (initial_state t) → a ≡ answer.Exhausted
  dead_start a found told dead = dead_exhausted dead a found (decided a found told (dead_has_room t dead limit most room box_room))
