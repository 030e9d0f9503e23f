-- The moves, on sites, marks and counts.
use Rattle.std.proofs.Common.{◌≡◌, ◌≢◌, ℕ, ◌<◌, ◌≤◌, ◌+◌, zero, suc, Bool, true, false, cond, List, [], ◌∷◌, ◌++◌, length, Option, None, Some, refl, sym, ap, subst, ◌∙◌, inl, inr, arith}
use Rattle.std.proofs.lemmas.Bool.{cases_order}
use Rattle.search_runs.specs.Answers.{count}
use Rattle.search_runs.specs.Nodes.{Config, IsNode, IsInNone, with_status, or_else, noted, marked, keeping, changed}
use Rattle.search_runs.specs.Runs.{count_takes}
use Rattle.search_runs.specs.Spaces.{Space, IsAt, IsDeadState}
use Rattle.search_runs.specs.declared.answers.Full.{Full}
use Rattle.search_runs.specs.declared.answers.Full.TheVariants.{States, Boxes}
use Rattle.search_runs.specs.declared.answers.Site.{Site}
use Rattle.search_runs.specs.declared.events.Event.{Event}
use Rattle.search_runs.specs.declared.events.Event.TheVariants.{Start, Take, Give, Starve}
use Rattle.search_runs.specs.declared.nodes.Node.{Node}
use Rattle.search_runs.specs.declared.nodes.Status.{Status}
use Rattle.search_runs.specs.declared.nodes.Status.TheVariants.{Closed}
use Rattle.search_runs.specs.declared.answers.Site.TheVariants as site
use Rattle.search_runs.proofs.Places.{at_same, at_kept, at_changed, at_other, length-with_status}
use Rattle.search_runs.proofs.Holds.{IsAlive, IsSite, LeadsBeyond, IsMark, AreNoted}
use Rattle.search_runs.proofs.Moves.{node_before}

-- nodes stay, alive ones alive and closed ones closed
abbrev pub AreKept : {S : Type 0} → List (Node S) → List (Node S) → Type 0
AreKept {S} old new =
    (n : ℕ) (x : Node S) → IsAt old n x → IsAlive x.status → (y : Node S) × IsAt new n y × (y.state ≡ x.state) × IsAlive y.status × (x.status ≡ Closed → y.status ≡ Closed)

module _ {S B : Type 0} (g : Space S B) where
  kept_added : (nodes : List (Node S)) (x : Node S) → AreKept nodes (nodes ++ x ∷ [])
  kept_added nodes x n y at alive = (y, at_kept nodes x n y at, refl, alive, λ closed. closed)

  kept_changed : (nodes : List (Node S)) (n : ℕ) (st : Status) (x : Node S) → IsAt nodes n x → IsAlive st → x.status ≢ Closed → AreKept nodes (with_status nodes n st)
  kept_changed nodes n st x here lives not_closed m y at alive =
      elim (cases_order m n) [
        | inl same ↦
            let there : IsAt nodes n y = subst (λ k. IsAt nodes k y) same at in (
              record y { status = st },
              subst (λ k. IsAt (with_status nodes n st) k (record y { status = st })) (sym same) (at_changed nodes n st y there),
              refl,
              lives,
              λ closed. absurd (not_closed (ap (λ z. z.status) (at_same nodes n x y here there) ∙ closed)),
            )
        | inr (inl less) ↦ (y, at_other nodes n st m y (λ same. omega arith) at, refl, alive, λ closed. closed)
        | inr (inr more) ↦ (y, at_other nodes n st m y (λ same. omega arith) at, refl, alive, λ closed. closed)
      ]

  site_kept : (old new : List (Node S)) → AreKept old new → (n : ℕ) (site : Site) → IsSite g old n site → IsSite g new n site
  site_kept old new kept n site.Goal (x, at, alive, unsure) = let k = kept n x at alive in (k.0, k.1, k.3, ap g.goal k.2 ∙ unsure)
  site_kept old new kept n (site.Action a) (x, at, closed, within, over) =
      let k = kept n x at (subst IsAlive (sym closed) tt) in (k.0, k.1, k.4 closed, within, ap (g.step a) k.2 ∙ over)

  pub beyond_kept : (old new : List (Node S)) (P Q : S → Type 0) → AreKept old new → ((s : S) → P s → Q s) → LeadsBeyond g old P → LeadsBeyond g new Q
  beyond_kept old new P Q kept follows (n, x, a, s, at, closed, within, next, is) =
      let k = kept n x at (subst IsAlive (sym closed) tt) in (n, k.0, a, s, k.1, k.4 closed, within, ap (g.step a) k.2 ∙ next, follows s is)

  mark_added : (c : Config S B) (x : Node S) → length c.nodes < g.most_states → (f : Full) → IsMark g c f → IsMark g (record c { nodes = c.nodes ++ x ∷ [] }) f
  mark_added c x room States (full, beyond) = absurd (omega arith)
  mark_added c x room Boxes (full, beyond) = (full, beyond_kept c.nodes (c.nodes ++ x ∷ []) (λ s. IsDeadState g s × IsInNone g c.boxes s) (λ s. IsDeadState g s × IsInNone g c.boxes s) (kept_added c.nodes x) (λ s h. h) beyond)

  pub noted_added : (c : Config S B) (x : Node S) → length c.nodes < g.most_states → AreNoted g c → AreNoted g (record c { nodes = c.nodes ++ x ∷ [] })
  noted_added c x room h = record {
    site = λ n site e. site_kept c.nodes (c.nodes ++ x ∷ []) (kept_added c.nodes x) n site (h.site n site e);
    mark = λ f e. mark_added c x room f (h.mark f e);
  }

  mark_keeping : (c : Config S B) (box : B) → length c.boxes < g.most_boxes → (f : Full) → IsMark g c f → IsMark g (keeping box c) f
  mark_keeping c box room States is = is
  mark_keeping c box room Boxes (full, beyond) = absurd (omega arith)

  pub noted_keeping : (c : Config S B) (box : B) → length c.boxes < g.most_boxes → AreNoted g c → AreNoted g (keeping box c)
  noted_keeping c box room h = record { site = h.site; mark = λ f e. mark_keeping c box room f (h.mark f e) }

  pub noted_noted : (c : Config S B) (n : ℕ) (site : Site) → IsSite g c.nodes n site → AreNoted g c → AreNoted g (noted n site c)
  noted_noted c n site is h = record { site = λ m other e. by m other c.over refl e; mark = λ f e. same_mark f (h.mark f e) }
    where
      by : (m : ℕ) (other : Site) (o : Option (ℕ × Site)) → c.over ≡ o → or_else o (n, site) ≡ Some (m, other) → IsSite g c.nodes m other
      by m other None was e = let same : ◌≡◌ {A = ℕ × Site} (n, site) (m, other) = cc in subst (λ p. IsSite g c.nodes p.0 p.1) same is
      by m other (Some p) was e = h.site m other (was ∙ e)

      same_mark : (f : Full) → IsMark g c f → IsMark g (noted n site c) f
      same_mark States m = m
      same_mark Boxes m = m

  pub noted_marked : (c : Config S B) (f : Full) → IsMark g c f → AreNoted g c → AreNoted g (marked f c)
  noted_marked c f is h = record { site = h.site; mark = λ k e. by k c.full refl e }
    where
      same_mark : (k : Full) → IsMark g c k → IsMark g (marked f c) k
      same_mark States m = m
      same_mark Boxes m = m

      by : (k : Full) (o : Option Full) → c.full ≡ o → or_else o f ≡ Some k → IsMark g (marked f c) k
      by k None was e = let same : f ≡ k = cc in same_mark k (subst (IsMark g c) same is)
      by k (Some l) was e = same_mark k (h.mark k (was ∙ e))

  mark_changed : (c : Config S B) (n : ℕ) (st : Status) (x : Node S) → IsAt c.nodes n x → IsAlive st → x.status ≢ Closed → (f : Full) → IsMark g c f → IsMark g (changed n st c) f
  mark_changed c n st x here lives not_closed States (full, beyond) =
      (length-with_status c.nodes n st ∙ full, beyond_kept c.nodes (with_status c.nodes n st) (λ s. IsNode c.nodes s → ⊥) (λ s. IsNode (with_status c.nodes n st) s → ⊥) (kept_changed c.nodes n st x here lives not_closed) (λ s none is. none (node_before g c.nodes n st s is)) beyond)
  mark_changed c n st x here lives not_closed Boxes (full, beyond) =
      (full, beyond_kept c.nodes (with_status c.nodes n st) (λ s. IsDeadState g s × IsInNone g c.boxes s) (λ s. IsDeadState g s × IsInNone g c.boxes s) (kept_changed c.nodes n st x here lives not_closed) (λ s h. h) beyond)

  pub noted_changed : (c : Config S B) (n : ℕ) (st : Status) (x : Node S) → IsAt c.nodes n x → IsAlive st → x.status ≢ Closed → AreNoted g c → AreNoted g (changed n st c)
  noted_changed c n st x here lives not_closed h = record {
    site = λ m site e. site_kept c.nodes (with_status c.nodes n st) (kept_changed c.nodes n st x here lives not_closed) m site (h.site m site e);
    mark = λ f e. mark_changed c n st x here lives not_closed f (h.mark f e);
  }

-- counts

pub count-added : {S : Type 0} (p : Status → Bool) (nodes : List (Node S)) (x : Node S) → count p (nodes ++ x ∷ []) ≡ count p nodes + cond (p x.status) 1 0
count-added p [] x = omega arith
count-added p (y ∷ nodes) x = omega (arith, count-added p nodes x)

pub count-within : {S : Type 0} (p : Status → Bool) (nodes : List (Node S)) → count p nodes ≤ length nodes
count-within p [] = omega arith
count-within p (y ∷ nodes) = by (p y.status) (count-within p nodes)
  where
    by : (b : Bool) → count p nodes ≤ length nodes → cond b 1 0 + count p nodes ≤ suc (length nodes)
    by true h = omega arith
    by false h = omega arith

pub count-changed : {S : Type 0} (p : Status → Bool) (nodes : List (Node S)) (n : ℕ) (st : Status) (x : Node S) → IsAt nodes n x
    → count p (with_status nodes n st) + cond (p x.status) 1 0 ≡ count p nodes + cond (p st) 1 0
count-changed p [] n st x e = cc
count-changed p (y ∷ nodes) zero st x e = let same : y ≡ x = cc in rw same (omega arith)
count-changed p (y ∷ nodes) (suc n) st x e = omega (arith, count-changed p nodes n st x e)

pub takes-Take : (j : List Event) (w n : ℕ) → count_takes (j ++ Take w n ∷ []) ≡ suc (count_takes j)
takes-Take [] w n = refl
takes-Take (Start ∷ j) w n = takes-Take j w n
takes-Take (Take v m ∷ j) w n = ap suc (takes-Take j w n)
takes-Take (Give v m ∷ j) w n = takes-Take j w n
takes-Take (Starve v ∷ j) w n = takes-Take j w n

pub takes-Give : (j : List Event) (w n : ℕ) → count_takes (j ++ Give w n ∷ []) ≡ count_takes j
takes-Give [] w n = refl
takes-Give (Start ∷ j) w n = takes-Give j w n
takes-Give (Take v m ∷ j) w n = ap suc (takes-Give j w n)
takes-Give (Give v m ∷ j) w n = takes-Give j w n
takes-Give (Starve v ∷ j) w n = takes-Give j w n

pub takes-Starve : (j : List Event) (w : ℕ) → count_takes (j ++ Starve w ∷ []) ≡ count_takes j
takes-Starve [] w = refl
takes-Starve (Start ∷ j) w = takes-Starve j w
takes-Starve (Take v m ∷ j) w = ap suc (takes-Starve j w)
takes-Starve (Give v m ∷ j) w = takes-Starve j w
takes-Starve (Starve v ∷ j) w = takes-Starve j w
