-- What holds after each run.
use Rattle.std.proofs.Common.{◌≡◌, ◌≢◌, ℕ, ◌<◌, ◌≤◌, ◌+◌, zero, suc, cond, List, [], ◌∷◌, ◌++◌, Option, None, Some, refl, sym, ap, subst, ◌∙◌, inl, inr, arith}
use Rattle.search_runs.specs.Meanings.{IsRightFor}
use Rattle.search_runs.specs.Nodes.{Config, IsNode, noted, changed, nothing}
use Rattle.search_runs.specs.Runs.{Enters, no_room, in_kept, no_box, in_own, reaches, waits, waits_over, Meets, Gives, Takes, Given, Leads, Run, starts, goes_on, count_takes}
use Rattle.search_runs.specs.Spaces.{Stepped, Blocked, Over, Next, Space, IsAt}
use Rattle.search_runs.specs.declared.events.Event.{Event}
use Rattle.search_runs.specs.declared.events.Event.TheVariants.{Start, Take, Give, Starve}
use Rattle.search_runs.specs.declared.nodes.Node.{Node}
use Rattle.search_runs.specs.declared.nodes.Status.{Status}
use Rattle.search_runs.specs.declared.nodes.Status.TheVariants.{Waiting, Taken, Closed}
use Rattle.search_runs.specs.declared.answers.Site.TheVariants as site
use Rattle.search_runs.proofs.Places.{at_within, at_kept, at_changed, length-with_status}
use Rattle.search_runs.proofs.Holds.{IsAlive, is_expanded, is_dead, IsMet, AreMet, AreCounted, Holds, Laws}
use Rattle.search_runs.proofs.Moves.{reach_on, met_noted, tree_changed, classed_changed, met_taken, met_closed, met_settled, met_done, some_or_else}
use Rattle.search_runs.proofs.Marks.{noted_noted, noted_changed, count-changed, takes-Take, takes-Give, takes-Starve}
use Rattle.search_runs.proofs.Entering.{IsFresh, entered}

module _ {S B : Type 0} (g : Space S B) where
  -- nodes stay when a state enters
  pub at_entered : (c d : Config S B) (s : S) (parent via : ℕ) (n : ℕ) (x : Node S) → Enters g s parent via c d → IsAt c.nodes n x → IsAt d.nodes n x
  at_entered c d s parent via n x (no_room full is) at = subst (λ e. IsAt e.nodes n x) (sym is) at
  at_entered c d s parent via n x (in_kept b room first is) at = subst (λ e. IsAt e.nodes n x) (sym is) (at_kept c.nodes _ n x at)
  at_entered c d s parent via n x (no_box room none dead full is) at = subst (λ e. IsAt e.nodes n x) (sym is) at
  at_entered c d s parent via n x (in_own b room none keeps box_room is) at = subst (λ e. IsAt e.nodes n x) (sym is) (at_kept c.nodes _ n x at)
  at_entered c d s parent via n x (reaches room is_goal is) at = subst (λ e. IsAt e.nodes n x) (sym is) (at_kept c.nodes _ n x at)
  at_entered c d s parent via n x (waits k room live estimate not_goal is) at = subst (λ e. IsAt e.nodes n x) (sym is) (at_kept c.nodes _ n x at)
  at_entered c d s parent via n x (waits_over k room live estimate unsure is) at = subst (λ e. IsAt e.nodes n x) (sym is) (at_kept c.nodes _ n x at)

module _ {S B : Type 0} (g : Space S B) (laws : Laws g) where
  settle : (j : List Event) (c : Config S B) (n a : ℕ) (x : Node S) → Holds g j c (Some (n, a)) → IsAt c.nodes n x → IsMet g c (g.step a x.state) → Holds g j c (Some (n, suc a))
  settle j c n a x h at is = record { tree = h.tree; classed = h.classed; met = met_settled g c n a x at is h.met; noted = h.noted; counted = h.counted }

  -- what a step of a closed node leads to is fresh
  fresh_from : (j : List Event) (c : Config S B) (pend : Option (ℕ × ℕ)) (n a : ℕ) (x : Node S) (s : S) → Holds g j c pend → IsAt c.nodes n x → x.status ≡ Closed → a < g.actions → g.step a x.state ≡ Next s → (IsNode c.nodes s → ⊥) → IsFresh g laws c.nodes s n a
  fresh_from j c pend n a x s h at closed within next none =
      let moves = laws.next a x.state s within next in
      let of : IsRightFor g c.boxes x.state Closed = subst (IsRightFor g c.boxes x.state) closed (h.classed.classes n x at) in
      record {
        is_state = laws.states a x.state s (h.tree.states n x at) next;
        none = none;
        first = λ empty. absurd (omega (arith, at_within c.nodes n x at));
        has_parent = λ st some. record { parent = x; there = at; below = at_within c.nodes n x at; closed = closed; leads = moves };
        reached = λ live. reach_on g x.state s a of.0 moves live;
        near = λ dead. (dead, inr (x.state, a, of.0, moves));
        beyond = λ some. (n, x, a, s, at, closed, within, next, refl);
      }

  meets : (j : List Event) (c d : Config S B) (n a : ℕ) (x : Node S) → Holds g j c (Some (n, a)) → IsAt c.nodes n x → x.status ≡ Closed → a < g.actions → (step : Stepped S) → g.step a x.state ≡ step → Meets g n a step c d
      → Holds g j d (Some (n, suc a)) × IsAt d.nodes n x
  meets j c d n a x h at closed within Blocked e is = subst (λ k. Holds g j k (Some (n, suc a)) × IsAt k.nodes n x) (sym is) (settle j c n a x h at (subst (IsMet g c) (sym e) tt), at)
  meets j c d n a x h at closed within Over e is =
      let over : Holds g j (noted n (site.Action a) c) (Some (n, a)) = record {
        tree = h.tree;
        classed = h.classed;
        met = met_noted g c (Some (n, a)) n (site.Action a) h.met;
        noted = noted_noted g c n (site.Action a) (x, at, closed, within, e) h.noted;
        counted = record { takes = h.counted.takes; limit = h.counted.limit; owned = h.counted.owned; states = h.counted.states; boxes = h.counted.boxes };
      } in
      subst (λ k. Holds g j k (Some (n, suc a)) × IsAt k.nodes n x) (sym is) (settle j (noted n (site.Action a) c) n a x over at (subst (IsMet g (noted n (site.Action a) c)) (sym e) (some_or_else c.over (n, site.Action a))), at)
  meets j c d n a x h at closed within (Next s) e (inl (there, is)) =
      subst (λ k. Holds g j k (Some (n, suc a)) × IsAt k.nodes n x) (sym is) (settle j c n a x h at (subst (IsMet g c) (sym e) (inl there)), at)
  meets j c d n a x h at closed within (Next s) e (inr (none, enters)) =
      let r = entered g laws j c d (Some (n, a)) s n a h (fresh_from j c (Some (n, a)) n a x s h at closed within e none) enters in
      let there : IsAt d.nodes n x = at_entered g c d s n a n x enters at in
      (settle j d n a x r.0 there (subst (IsMet g d) (sym e) r.1), there)

  gives : (left : ℕ) (j : List Event) (c d : Config S B) (n a : ℕ) (x : Node S) → a + left ≡ g.actions → Holds g j c (Some (n, a)) → IsAt c.nodes n x → x.status ≡ Closed → Gives g n x.state a left c d → Holds g j d None
  gives zero j c d n a x all h at closed is =
      let last : a ≡ g.actions = omega arith in
      subst (λ k. Holds g j k None) (sym is) (record { tree = h.tree; classed = h.classed; met = met_done g c n (subst (λ k. AreMet g c (Some (n, k))) last h.met); noted = h.noted; counted = h.counted })
  gives (suc left) j c d n a x all h at closed (mid, meet, rest) =
      let r = meets j c mid n a x h at closed (omega arith) (g.step a x.state) refl meet in
      gives left j mid d n (suc a) x (omega arith) r.0 r.1 closed rest

  counted_changed : (i j : List Event) (c : Config S B) (n : ℕ) (st : Status) (x : Node S) → IsAt c.nodes n x → AreCounted g i c → is_dead x.status ≡ is_dead st
      → count_takes j + cond {A = ℕ} (is_expanded x.status) 1 0 ≡ count_takes i + cond (is_expanded st) 1 0 → count_takes j ≤ g.limit → AreCounted g j (changed n st c)
  counted_changed i j c n st x at h same more limit =
      let as_dead : ◌≡◌ {A = ℕ} (cond (is_dead x.status) 1 0) (cond (is_dead st) 1 0) = ap (λ b. cond {A = ℕ} b 1 0) same in
      record {
        takes = omega (arith, h.takes, more, count-changed is_expanded c.nodes n st x at);
        limit = limit;
        owned = omega (arith, h.owned, as_dead, count-changed is_dead c.nodes n st x at);
        states = omega (arith, h.states, length-with_status c.nodes n st);
        boxes = h.boxes;
      }

  -- Waiting to Taken
  takes : (j : List Event) (c d : Config S B) (w n : ℕ) → Holds g j c None → Takes g.workers g.limit j c w n d → Holds g (j ++ Take w n ∷ []) d None
  takes j c d w n h t =
      let x = t.is_least.node in
      let at = t.is_least.there in
      let waits = t.is_least.waits in
      let of : IsRightFor g c.boxes x.state (Waiting t.h) = subst (IsRightFor g c.boxes x.state) waits (h.classed.classes n x at) in
      let not_closed : x.status ≢ Closed = λ closed. (let bad : Waiting t.h ≡ Closed = sym waits ∙ closed in cc) in
      let zero_more : ◌≡◌ {A = ℕ} (cond (is_expanded x.status) 1 0) 0 = ap (λ st. cond {A = ℕ} (is_expanded st) 1 0) waits in
      subst (λ k. Holds g (j ++ Take w n ∷ []) k None) (sym t.after) (record {
        tree = tree_changed g c.nodes n (Taken w) x at not_closed h.tree;
        classed = classed_changed g c.nodes c.boxes n (Taken w) x at (t.worker, of.0, of.2) h.classed;
        met = met_taken g c n w x at (subst IsAlive (sym waits) tt) h.met;
        noted = noted_changed g c n (Taken w) x at tt not_closed h.noted;
        counted = counted_changed j (j ++ Take w n ∷ []) c n (Taken w) x at h.counted (ap is_dead waits) (omega (arith, takes-Take j w n)) (omega (arith, takes-Take j w n, t.below));
      })

  given : (j : List Event) (c d : Config S B) (w n : ℕ) → Holds g j c None → Given g c w n d → Holds g (j ++ Give w n ∷ []) d None
  given j c d w n h t =
      let x = t.node in
      let of : IsRightFor g c.boxes x.state (Taken w) = subst (IsRightFor g c.boxes x.state) t.taken (h.classed.classes n x t.there) in
      let not_closed : x.status ≢ Closed = λ closed. (let bad : Taken w ≡ Closed = sym t.taken ∙ closed in cc) in
      let one_more : ◌≡◌ {A = ℕ} (cond (is_expanded x.status) 1 0) 1 = ap (λ st. cond {A = ℕ} (is_expanded st) 1 0) t.taken in
      gives g.actions (j ++ Give w n ∷ []) (changed n Closed c) d n 0 (record x { status = Closed }) (omega arith) (record {
        tree = tree_changed g c.nodes n Closed x t.there not_closed h.tree;
        classed = classed_changed g c.nodes c.boxes n Closed x t.there (of.1, of.2) h.classed;
        met = met_closed g c n x t.there (subst IsAlive (sym t.taken) tt) h.met;
        noted = noted_changed g c n Closed x t.there tt not_closed h.noted;
        counted = counted_changed j (j ++ Give w n ∷ []) c n Closed x t.there h.counted (ap is_dead t.taken) (omega (arith, takes-Give j w n)) (omega (arith, takes-Give j w n, h.counted.limit));
      }) (at_changed c.nodes n Closed x t.there) refl t.after

  leads : (j : List Event) (c : Config S B) (e : Event) (d : Config S B) → Holds g j c None → Leads g j c e d → Holds g (j ++ e ∷ []) d None
  leads j c Start d h is = absurd is
  leads j c (Take w n) d h is = takes j c d w n h is
  leads j c (Give w n) d h is = given j c d w n h is
  leads j c (Starve w) d h is =
      subst (λ k. Holds g (j ++ Starve w ∷ []) k None) (sym is.after) (record {
        tree = h.tree;
        classed = h.classed;
        met = h.met;
        noted = h.noted;
        counted = record { takes = takes-Starve j w ∙ h.counted.takes; limit = omega (arith, takes-Starve j w, h.counted.limit); owned = h.counted.owned; states = h.counted.states; boxes = h.counted.boxes };
      })

  none_at : {X : Type 0} (n : ℕ) (x : X) → IsAt [] n x → ⊥
  none_at n x e = cc

  before_start : Holds g (Start ∷ []) nothing None
  before_start = record {
    tree = record { first = λ x e. absurd (none_at 0 x e); states = λ n x e. absurd (none_at n x e); apart = λ m n x y e f same. absurd (none_at m x e); parents = λ n x above e. absurd (none_at n x e) };
    classed = record { classes = λ n x e. absurd (none_at n x e); dead = λ b box e. absurd (none_at b box e) };
    met = record { steps = λ n a x e closed within past. absurd (none_at n x e); goals = λ n x e alive unsure. absurd (none_at n x e) };
    noted = record { site = λ n site e. cc; mark = λ f e. cc };
    counted = record { takes = refl; limit = omega arith; owned = omega arith; states = omega arith; boxes = omega arith };
  }

  -- the invariant
  pub runs_hold : (j : List Event) (c : Config S B) → Run g j c → Holds g j c None
  runs_hold _ _ (starts c enters) =
      (entered g laws (Start ∷ []) nothing c None g.initial 0 0 before_start (record {
        is_state = laws.initial;
        none = λ there. none_at there.0 there.1 there.2;
        first = λ empty. (refl, refl, refl);
        has_parent = λ st some. absurd (omega arith);
        reached = λ live. ([], (live, refl));
        near = λ dead. (dead, inl refl);
        beyond = λ some. absurd (omega arith);
      }) enters).0
  runs_hold _ _ (goes_on j c e d run step) = leads j c e d (runs_hold j c run) step
