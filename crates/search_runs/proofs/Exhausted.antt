-- Where nothing waits, nothing is taken, no goal is reached and nothing was noted: the closed states are the live reachable ones.
use Rattle.std.proofs.Common.{◌≡◌, ◌<◌, true, false, is_some, ℕ, ◌⊎◌, List, [], ◌∷◌, Option, None, refl, sym, ap, subst, ◌∙◌, inl, inr}
use Rattle.std.specs.Prelude.{IsSome, ◌↔◌}
use Rattle.search_runs.specs.Answers.{closed_states}
use Rattle.search_runs.specs.Meanings.{IsRightFor, IsCovered, IsProved}
use Rattle.search_runs.proofs.Finding.{closed_if_listed, listed_if_closed}
use Rattle.search_runs.specs.Nodes.{IsClosed}
use Rattle.search_runs.specs.Nodes.{Config}
use Rattle.search_runs.specs.Spaces.{Truth, Yes, No, Overflow, Stepped, Blocked, Over, Next, Space, IsAt, IsListed, IsLive, LiveWalk, IsLiveReachable}
use Rattle.search_runs.specs.declared.events.Event.{Event}
use Rattle.search_runs.specs.declared.nodes.Node.{Node}
use Rattle.search_runs.specs.declared.nodes.Status.{Status}
use Rattle.search_runs.specs.declared.nodes.Status.TheVariants.{Closed, Dead}
use Rattle.search_runs.proofs.Holds.{IsAlive, IsMet, Holds, Laws}

none_there : {X : Type 0} {o : Option X} → o ≡ None → IsSome o → ⊥
none_there none some = let bad : true ≡ false = sym some ∙ ap is_some none in cc

module _ {S B : Type 0} (g : Space S B) (laws : Laws g) (j : List Event) (c : Config S B) (h : Holds g j c None)
    (all_done : (n : ℕ) (x : Node S) → IsAt c.nodes n x → (x.status ≡ Closed) ⊎ ((b : ℕ) × (x.status ≡ Dead b)))
    (start : (x : Node S) × IsAt c.nodes 0 x) (no_site : c.over ≡ None) (no_mark : c.full ≡ None) where
  first_state : (x : Node S) → (x.state ≡ g.initial) × (x.parent ≡ 0) × (x.via ≡ 0) → x.state ≡ g.initial
  first_state x is = is.0

  abbrev pub IsDone : S → Type 0
  IsDone s = IsClosed c.nodes s

  closed_by_class : (s : S) (st : Status) → IsRightFor g c.boxes s st → IsLive g s → (st ≡ Closed) ⊎ ((b : ℕ) × (st ≡ Dead b)) → st ≡ Closed
  closed_by_class s st is live (inl closed) = closed
  closed_by_class s st is live (inr (b, dead)) = let of : IsRightFor g c.boxes s (Dead b) = subst (IsRightFor g c.boxes s) dead is in absurd (live of.0.0)

  walk_ends : (actions : List ℕ) (s last : S) → LiveWalk g actions s last → (n : ℕ) (x : Node S) → IsAt c.nodes n x → x.state ≡ s → IsDone last
  walk_ends [] s last walk n x at is =
      (n, x, at, is ∙ walk.1, closed_by_class x.state x.status (h.classed.classes n x at) (subst (IsLive g) (sym is) walk.0) (all_done n x at))
  walk_ends (a ∷ rest) s last walk n x at is =
      let closed = closed_by_class x.state x.status (h.classed.classes n x at) (subst (IsLive g) (sym is) walk.0) (all_done n x at) in
      let next = walk.1.0 in
      let moves : g.Moves a x.state next = subst (λ q. g.Moves a q next) (sym is) walk.1.1 in
      by (walk_ends rest next last walk.1.2) moves (g.step a x.state) refl (h.met.steps n a x at closed (laws.known a x.state next moves) tt)
    where
      by : ((m : ℕ) (y : Node S) → IsAt c.nodes m y → y.state ≡ walk.1.0 → IsDone last) → g.Moves a x.state walk.1.0 → (step : Stepped S) → g.step a x.state ≡ step → IsMet g c step → IsDone last
      by goes moves Blocked e met = absurd (laws.blocked a x.state walk.1.0 e moves)
      by goes moves Over e met = absurd (none_there no_site met)
      by goes moves (Next u) e (inl (m, y, there, same)) = goes m y there (same ∙ sym (laws.only a x.state u walk.1.0 e moves))
      by goes moves (Next u) e (inr mark) = absurd (none_there no_mark mark)

  -- closed states are live reachable
  pub closed_is_reached : (s : S) → IsDone s → IsLiveReachable g s
  closed_is_reached s (n, x, at, is, closed) =
      let of : IsRightFor g c.boxes x.state Closed = subst (IsRightFor g c.boxes x.state) closed (h.classed.classes n x at) in
      subst (IsLiveReachable g) is of.0

  -- and live reachable ones are closed
  pub reached_is_closed : (s : S) → IsLiveReachable g s → IsDone s
  reached_is_closed s (actions, walk) = walk_ends actions g.initial s walk 0 start.0 start.1 (first_state start.0 (h.tree.first start.0 start.1))

  abbrev IsSafe : S → Type 0
  IsSafe s = IsCovered g c.boxes (closed_states c.nodes) s

  covered_if : (n : ℕ) (x : Node S) → IsAt c.nodes n x → IsRightFor g c.boxes x.state x.status → (x.status ≡ Closed) ⊎ ((b : ℕ) × (x.status ≡ Dead b)) → IsSafe x.state
  covered_if n x at of (inl closed) = inl (listed_if_closed c.nodes x.state (n, x, at, refl, closed))
  covered_if n x at of (inr (b, dead)) =
      let in_box : IsRightFor g c.boxes x.state (Dead b) = subst (IsRightFor g c.boxes x.state) dead of in
      inr (b, in_box.1.0, in_box.1.1, in_box.1.3)

  covered : (n : ℕ) (x : Node S) → IsAt c.nodes n x → IsSafe x.state
  covered n x at = covered_if n x at (h.classed.classes n x at) (all_done n x at)

  goal_is : (x : Node S) (n : ℕ) → IsAt c.nodes n x → x.status ≡ Closed → (v : Truth) → g.goal x.state ≡ v → g.goal x.state ≡ No
  goal_is x n at closed Yes e = let of : IsRightFor g c.boxes x.state Closed = subst (IsRightFor g c.boxes x.state) closed (h.classed.classes n x at) in absurd (of.1 e)
  goal_is x n at closed No e = e
  goal_is x n at closed Overflow e = absurd (none_there no_site (h.met.goals n x at (subst IsAlive (sym closed) tt) e))

  misses : (s : S) → IsDone s → g.goal s ≡ No
  misses s (n, x, at, is, closed) = subst (λ t. g.goal t ≡ No) is (goal_is x n at closed (g.goal x.state) refl)

  abbrev IsSafeStep : S → ℕ → Type 0
  IsSafeStep s a = (g.step a s ≡ Blocked) ⊎ ((next : S) × (g.step a s ≡ Next next) × IsSafe next)

  step_is : (x : Node S) (a : ℕ) (step : Stepped S) → g.step a x.state ≡ step → IsMet g c step → IsSafeStep x.state a
  step_is x a Blocked e met = inl e
  step_is x a Over e met = absurd (none_there no_site met)
  step_is x a (Next t) e (inl (m, y, there, same)) = inr (t, e, subst IsSafe same (covered m y there))
  step_is x a (Next t) e (inr mark) = absurd (none_there no_mark mark)

  steps : (s : S) (a : ℕ) → IsDone s → a < g.actions → IsSafeStep s a
  steps s a (n, x, at, is, closed) within = subst (λ u. IsSafeStep u a) is (step_is x a (g.step a x.state) refl (h.met.steps n a x at closed within tt))

  -- boxes and closed states let no plan through
  pub is_proved : IsProved g c.boxes (closed_states c.nodes)
  is_proved = record {
    dead = h.classed.dead;
    misses = λ s listed. misses s (closed_if_listed c.nodes s listed);
    steps = λ s a listed within. steps s a (closed_if_listed c.nodes s listed) within;
    initial = subst IsSafe (first_state start.0 (h.tree.first start.0 start.1)) (covered 0 start.0 start.1);
  }

  pub exactly : (s : S) → IsLiveReachable g s ↔ IsListed (closed_states c.nodes) s
  exactly s = ((λ reached. listed_if_closed c.nodes s (reached_is_closed s reached)), (λ listed. closed_is_reached s (closed_if_listed c.nodes s listed)))
