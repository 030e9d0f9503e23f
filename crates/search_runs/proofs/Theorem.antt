-- What the answer of a run means.
use Rattle.std.proofs.Common.{◌≡◌, ℕ, ◌≤◌, ◌⊎◌, Bool, true, false, List, Option, None, Some, refl, sym, ap, subst, ◌∙◌, inl, inr, arith, lt-ltb, if◌then◌else◌, nat_lt}
use Rattle.std.proofs.lemmas.Bool.{cases_order}
use Rattle.search_runs.specs.Answers.{is_taken, is_waiting, is_goal, first_where, when_idle, answer_of}
use Rattle.search_runs.specs.Meanings.{IsRightFor, IsPathTo, Means}
use Rattle.search_runs.specs.Nodes.{Config}
use Rattle.search_runs.specs.Runs.{count_takes, has_starve, Run}
use Rattle.search_runs.specs.Spaces.{Space, IsAt}
use Rattle.search_runs.specs.declared.answers.Answer.{Answer}
use Rattle.search_runs.specs.declared.answers.Answer.TheVariants.{Plan, Exhausted, Expansions, Filled, Starved}
use Rattle.search_runs.specs.declared.answers.Answer.TheVariants as answer
use Rattle.search_runs.specs.declared.answers.Full.{Full}
use Rattle.search_runs.specs.declared.answers.Full.TheVariants.{States, Boxes}
use Rattle.search_runs.specs.declared.answers.Site.{Site}
use Rattle.search_runs.specs.declared.answers.Site.TheVariants as site
use Rattle.search_runs.specs.declared.events.Event.{Event}
use Rattle.search_runs.specs.declared.nodes.Node.{Node}
use Rattle.search_runs.specs.declared.nodes.Status.{Status}
use Rattle.search_runs.specs.declared.nodes.Status.TheVariants.{Waiting, Taken, Closed, Goal, Dead}
use Rattle.search_runs.proofs.Bounds.{expansions, filled_states, filled_boxes}
use Rattle.search_runs.proofs.Exhausted.{is_proved, exactly}
use Rattle.search_runs.proofs.Finding.{waits_only}
use Rattle.search_runs.proofs.Holds.{Holds, Laws, IsSite}
use Rattle.search_runs.proofs.Paths.{at_some, has_first, path_leads}
use Rattle.search_runs.proofs.Stays.{none_where, some_where, is_goal_only}
use Rattle.search_runs.proofs.Whole.{runs_hold}

-- neither reached, nor taken, nor waiting
done : {S : Type 0} (nodes : List (Node S)) → first_where is_goal nodes ≡ None → first_where is_taken nodes ≡ None → first_where is_waiting nodes ≡ None
    → (n : ℕ) (x : Node S) → IsAt nodes n x → (x.status ≡ Closed) ⊎ ((b : ℕ) × (x.status ≡ Dead b))
done nodes goals takens waitings n x at = by x.status refl
  where
    by : (st : Status) → x.status ≡ st → (x.status ≡ Closed) ⊎ ((b : ℕ) × (x.status ≡ Dead b))
    by (Waiting h) is = absurd (none_where is_waiting nodes waitings n x at (ap is_waiting is))
    by (Taken w) is = absurd (none_where is_taken nodes takens n x at (ap is_taken is))
    by Closed is = inl is
    by Goal is = absurd (none_where is_goal nodes goals n x at (ap is_goal is))
    by (Dead b) is = inr (b, is)

not_below : (a b : ℕ) → nat_lt a b ≡ false → b ≤ a
not_below a b is =
    elim (cases_order a b) [
      | inl same ↦ omega (arith, same)
      | inr (inl less) ↦ let bad : true ≡ false = sym (lt-ltb a b less) ∙ is in cc
      | inr (inr more) ↦ omega (arith, more)
    ]

module _ {S B : Type 0} (g : Space S B) (laws : Laws g) (j : List Event) (c : Config S B) (h : Holds g j c None) where
  path : (n : ℕ) (x : Node S) → IsAt c.nodes n x → IsPathTo g c.nodes n x.state
  path n x at = record { node = x; there = at; is_state = refl; leads = path_leads g laws j c h n n x (omega arith) at }

  plan : (n : ℕ) → first_where is_goal c.nodes ≡ Some n → Means g j c (Plan n)
  plan n is =
      let (x, at, goal) = some_where is_goal c.nodes n is in
      let status : x.status ≡ Goal = is_goal_only g x.status goal in
      let right : IsRightFor g c.boxes x.state Goal = subst (IsRightFor g c.boxes x.state) status (h.classed.classes n x at) in
      (x.state, path n x at, right.1)

  site_means : (n : ℕ) (p : Site) → IsSite g c.nodes n p → Means g j c (answer.Over n p)
  site_means n site.Goal (x, at, alive, overflow) = (x.state, path n x at, overflow)
  site_means n (site.Action a) (x, at, closed, within, over) = (x.state, path n x at, (within, over))

  filled : (f : Full) → c.full ≡ Some f → Means g j c (Filled f)
  filled States is = filled_states g laws j c h is
  filled Boxes is = filled_boxes g laws j c h is

  limited : (n : ℕ) → first_where is_waiting c.nodes ≡ Some n → nat_lt (count_takes j) g.limit ≡ false → Means g j c Expansions
  limited n is past =
      let (x, at, waiting) = some_where is_waiting c.nodes n is in
      let status = waits_only x.status waiting in
      let most = not_below (count_takes j) g.limit past in
      (omega (arith, most, h.counted.limit), expansions g laws j c h n status.0 x at status.1 most)

  exhausted : (start : (x : Node S) × IsAt c.nodes 0 x) → first_where is_goal c.nodes ≡ None → first_where is_taken c.nodes ≡ None → first_where is_waiting c.nodes ≡ None
      → c.over ≡ None → c.full ≡ None → Means g j c Exhausted
  exhausted start goals takens waitings no_site no_mark =
      let all = done c.nodes goals takens waitings in
      (is_proved g laws j c h all start no_site no_mark, exactly g laws j c h all start no_site no_mark)

  module _ (start : (x : Node S) × IsAt c.nodes 0 x) (a : Answer) where
    by_site : first_where is_goal c.nodes ≡ None → first_where is_taken c.nodes ≡ None → first_where is_waiting c.nodes ≡ None → c.full ≡ None
        → (o : Option (ℕ × Site)) → c.over ≡ o → (elim o as (λ _. Option Answer) [ Some p ↦ Some (answer.Over p.0 p.1) | None ↦ Some Exhausted ]) ≡ Some a → Means g j c a
    by_site goals takens waitings no_mark (Some p) e is =
        let same : answer.Over p.0 p.1 ≡ a = cc in subst (Means g j c) same (site_means p.0 p.1 (h.noted.site p.0 p.1 e))
    by_site goals takens waitings no_mark None e is =
        let same : Exhausted ≡ a = cc in subst (Means g j c) same (exhausted start goals takens waitings e no_mark)

    by_limit : (n : ℕ) → first_where is_waiting c.nodes ≡ Some n → (b : Bool) → nat_lt (count_takes j) g.limit ≡ b → (if b then None else Some Expansions) ≡ Some a → Means g j c a
    by_limit n waits true e is = cc
    by_limit n waits false e is = let same : Expansions ≡ a = cc in subst (Means g j c) same (limited n waits e)

    by_waiting : first_where is_goal c.nodes ≡ None → first_where is_taken c.nodes ≡ None → c.full ≡ None → (o : Option ℕ) → first_where is_waiting c.nodes ≡ o
        → (elim o as (λ _. Option Answer) [ Some n ↦ if nat_lt (count_takes j) g.limit then None else Some Expansions | None ↦ elim c.over [ Some p ↦ Some (answer.Over p.0 p.1) | None ↦ Some Exhausted ] ]) ≡ Some a → Means g j c a
    by_waiting goals takens no_mark (Some n) e is = by_limit n e (nat_lt (count_takes j) g.limit) refl is
    by_waiting goals takens no_mark None e is = by_site goals takens e no_mark c.over refl is

    by_mark : first_where is_goal c.nodes ≡ None → first_where is_taken c.nodes ≡ None → (o : Option Full) → c.full ≡ o
        → (elim o as (λ _. Option Answer) [ Some f ↦ Some (Filled f) | None ↦ elim (first_where is_waiting c.nodes) [ Some n ↦ if nat_lt (count_takes j) g.limit then None else Some Expansions | None ↦ elim c.over [ Some p ↦ Some (answer.Over p.0 p.1) | None ↦ Some Exhausted ] ] ]) ≡ Some a
        → Means g j c a
    by_mark goals takens (Some f) e is = let same : Filled f ≡ a = cc in subst (Means g j c) same (filled f e)
    by_mark goals takens None e is = by_waiting goals takens e (first_where is_waiting c.nodes) refl is

    by_taken : first_where is_goal c.nodes ≡ None → (o : Option ℕ) → first_where is_taken c.nodes ≡ o → (elim o as (λ _. Option Answer) [ Some n ↦ None | None ↦ when_idle g.limit j c ]) ≡ Some a → Means g j c a
    by_taken goals (Some n) e is = cc
    by_taken goals None e is = by_mark goals e c.full refl is

    by_starve : first_where is_goal c.nodes ≡ None → (b : Bool) → has_starve j ≡ b
        → (if b then Some Starved else elim (first_where is_taken c.nodes) as (λ _. Option Answer) [ Some n ↦ None | None ↦ when_idle g.limit j c ]) ≡ Some a → Means g j c a
    by_starve goals true e is = let same : Starved ≡ a = cc in subst (Means g j c) same e
    by_starve goals false e is = by_taken goals (first_where is_taken c.nodes) refl is

    by_goal : (o : Option ℕ) → first_where is_goal c.nodes ≡ o
        → (elim o as (λ _. Option Answer) [ Some n ↦ Some (Plan n) | None ↦ if has_starve j then Some Starved else elim (first_where is_taken c.nodes) [ Some n ↦ None | None ↦ when_idle g.limit j c ] ]) ≡ Some a → Means g j c a
    by_goal (Some n) e is = let same : Plan n ≡ a = cc in subst (Means g j c) same (plan n e)
    by_goal None e is = by_starve e (has_starve j) refl is

module _ {S B : Type 0} (g : Space S B) (laws : Laws g) where
  -- the answer of a run means what it says
  pub answers_mean : (j : List Event) (c : Config S B) → Run g j c → (a : Answer) → answer_of g.limit j c ≡ Some a → Means g j c a
  answers_mean j c run a is = by_goal g laws j c (runs_hold g laws j c run) (at_some c.nodes (has_first g laws j c run)) a (first_where is_goal c.nodes) refl is

  -- each node's status is right for its state
  pub statuses_are_right : (j : List Event) (c : Config S B) → Run g j c → (n : ℕ) (x : Node S) → IsAt c.nodes n x → IsRightFor g c.boxes x.state x.status
  statuses_are_right j c run = (runs_hold g laws j c run).classed.classes
