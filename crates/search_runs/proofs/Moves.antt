-- The moves of which events are made, on what holds of nodes, boxes and steps.
use Rattle.std.proofs.Common.{◌≡◌, ◌≢◌, ℕ, ◌<◌, suc, List, [], ◌∷◌, ◌++◌, length, Option, None, Some, refl, sym, ap, subst, ◌∙◌, inl, inr, arith}
use Rattle.std.specs.Prelude.{IsSome}
use Rattle.std.proofs.lemmas.Bool.{cases_order}
use Rattle.search_runs.specs.Meanings.{IsRightFor}
use Rattle.search_runs.specs.Nodes.{Config, IsNode, with_status, or_else, noted, marked, keeping, changed}
use Rattle.search_runs.specs.Spaces.{Overflow, Stepped, Blocked, Over, Next, Space, IsAt, IsLive, LiveWalk, IsLiveReachable}
use Rattle.search_runs.specs.declared.answers.Full.{Full}
use Rattle.search_runs.specs.declared.answers.Site.{Site}
use Rattle.search_runs.specs.declared.nodes.Node.{Node}
use Rattle.search_runs.specs.declared.nodes.Status.{Status}
use Rattle.search_runs.specs.declared.nodes.Status.TheVariants.{Waiting, Taken, Closed, Dead, Goal}
use Rattle.search_runs.proofs.Places.{at_same, at_kept, at_last, at_longer, at_changed, at_other, at_before}
use Rattle.search_runs.proofs.Holds.{IsAlive, HasParent, IsTree, AreClassed, IsMet, AreMet}

pub some_or_else : {X : Type 0} (o : Option X) (x : X) → IsSome (or_else o x)
some_or_else None x = refl
some_or_else (Some y) x = refl

some_kept : {X : Type 0} (o : Option X) (x : X) → IsSome o → IsSome (or_else o x)
some_kept o x h = some_or_else o x

pub node_kept : {S : Type 0} (nodes : List (Node S)) (x : Node S) (s : S) → IsNode nodes s → IsNode (nodes ++ x ∷ []) s
node_kept nodes x s (n, y, there, is) = (n, y, at_kept nodes x n y there, is)

pub node_last : {S : Type 0} (nodes : List (Node S)) (x : Node S) → IsNode (nodes ++ x ∷ []) x.state
node_last nodes x = (length nodes, x, at_last nodes x, refl)

module _ {S B : Type 0} (g : Space S B) where
  walk_on : (actions : List ℕ) (s p x : S) (a : ℕ) → LiveWalk g actions s p → g.Moves a p x → IsLive g x → LiveWalk g (actions ++ a ∷ []) s x
  walk_on [] s p x a w m live = (w.0, (x, subst (λ q. g.Moves a q x) (sym w.1) m, (live, refl)))
  walk_on (b ∷ rest) s p x a w m live = (w.0, (w.1.0, w.1.1, walk_on rest w.1.0 p x a w.1.2 m live))

  -- a step from a live reachable state to a live one
  pub reach_on : (p x : S) (a : ℕ) → IsLiveReachable g p → g.Moves a p x → IsLive g x → IsLiveReachable g x
  reach_on p x a r m live = (r.0 ++ a ∷ [], walk_on r.0 g.initial p x a r.1 m live)

  -- a node more

  parent_kept : (nodes : List (Node S)) (x : Node S) (n : ℕ) (y : Node S) → HasParent g nodes n y → HasParent g (nodes ++ x ∷ []) n y
  parent_kept nodes x n y h = record { parent = h.parent; there = at_kept nodes x y.parent h.parent h.there; below = h.below; closed = h.closed; leads = h.leads }

  pub tree_added : (nodes : List (Node S)) (x : Node S) → IsTree g nodes → g.IsState x.state → (IsNode nodes x.state → ⊥)
      → (length nodes ≡ 0 → (x.state ≡ g.initial) × (x.parent ≡ 0) × (x.via ≡ 0)) → (0 < length nodes → HasParent g nodes (length nodes) x) → IsTree g (nodes ++ x ∷ [])
  tree_added nodes x t is_state new first parent = record {
    first = λ y e. elim (at_longer nodes x 0 y e) [
      | inl old ↦ t.first y old
      | inr (here, is) ↦ subst (λ z. (z.state ≡ g.initial) × (z.parent ≡ 0) × (z.via ≡ 0)) (sym is) (first (sym here))
    ];
    states = λ n y e. elim (at_longer nodes x n y e) [
      | inl old ↦ t.states n y old
      | inr (here, is) ↦ subst (λ z. g.IsState z.state) (sym is) is_state
    ];
    apart = λ m n y z p q same. elim (at_longer nodes x m y p) [
      | inl old ↦ elim (at_longer nodes x n z q) [
        | inl older ↦ t.apart m n y z old older same
        | inr (here, is) ↦ absurd (new (m, y, old, same ∙ ap (λ u. u.state) is))
      ]
      | inr (here, is) ↦ elim (at_longer nodes x n z q) [
        | inl older ↦ absurd (new (n, z, older, sym same ∙ ap (λ u. u.state) is))
        | inr (there, _) ↦ here ∙ sym there
      ]
    ];
    parents = λ n y above e. elim (at_longer nodes x n y e) [
      | inl old ↦ parent_kept nodes x n y (t.parents n y above old)
      | inr (here, is) ↦ rw (here, is) (parent_kept nodes x (length nodes) x (parent (omega arith)))
    ];
  }

  pub classed_added : (nodes : List (Node S)) (boxes : List B) (x : Node S) → AreClassed g nodes boxes → IsRightFor g boxes x.state x.status → AreClassed g (nodes ++ x ∷ []) boxes
  classed_added nodes boxes x c is = record {
    classes = λ n y e. elim (at_longer nodes x n y e) [
      | inl old ↦ c.classes n y old
      | inr (here, same) ↦ subst (λ z. IsRightFor g boxes z.state z.status) (sym same) is
    ];
    dead = c.dead;
  }

  is_of_kept : (boxes : List B) (box : B) (s : S) (st : Status) → IsRightFor g boxes s st → IsRightFor g (boxes ++ box ∷ []) s st
  is_of_kept boxes box s (Waiting h) is = is
  is_of_kept boxes box s (Taken w) is = is
  is_of_kept boxes box s Closed is = is
  is_of_kept boxes box s Goal is = is
  is_of_kept boxes box s (Dead b) is = (is.0, (is.1.0, at_kept boxes box b is.1.0 is.1.1, is.1.2, is.1.3))

  pub classed_keeping : (nodes : List (Node S)) (boxes : List B) (box : B) → AreClassed g nodes boxes → g.IsDead box → AreClassed g nodes (boxes ++ box ∷ [])
  classed_keeping nodes boxes box c dead = record {
    classes = λ n y e. is_of_kept boxes box y.state y.status (c.classes n y e);
    dead = λ b other e. elim (at_longer boxes box b other e) [
      | inl old ↦ c.dead b other old
      | inr (here, same) ↦ subst g.IsDead (sym same) dead
    ];
  }

  -- with more nodes, a site and a mark where there was one, what was met is met
  pub is_met_more : (c d : Config S B) → ((s : S) → IsNode c.nodes s → IsNode d.nodes s) → (IsSome c.over → IsSome d.over) → (IsSome c.full → IsSome d.full)
      → (step : Stepped S) → IsMet g c step → IsMet g d step
  is_met_more c d nodes over full Blocked met = tt
  is_met_more c d nodes over full Over met = over met
  is_met_more c d nodes over full (Next s) (inl there) = inl (nodes s there)
  is_met_more c d nodes over full (Next s) (inr mark) = inr (full mark)

  pub met_added : (c : Config S B) (pend : Option (ℕ × ℕ)) (x : Node S) → AreMet g c pend → x.status ≢ Closed → (IsAlive x.status → g.goal x.state ≡ Overflow → IsSome c.over)
      → AreMet g (record c { nodes = c.nodes ++ x ∷ [] }) pend
  met_added c pend x met closed goal = record {
    steps = λ n a y e is within past. elim (at_longer c.nodes x n y e) [
      | inl old ↦ is_met_more c (record c { nodes = c.nodes ++ x ∷ [] }) (node_kept c.nodes x) (λ h. h) (λ h. h) (g.step a y.state) (met.steps n a y old is within past)
      | inr (here, same) ↦ absurd (closed (sym (ap (λ z. z.status) same) ∙ is))
    ];
    goals = λ n y e alive unsure. elim (at_longer c.nodes x n y e) [
      | inl old ↦ met.goals n y old alive unsure
      | inr (here, same) ↦ goal (subst (λ z. IsAlive z.status) same alive) (sym (ap (λ z. g.goal z.state) same) ∙ unsure)
    ];
  }

  pub met_noted : (c : Config S B) (pend : Option (ℕ × ℕ)) (n : ℕ) (site : Site) → AreMet g c pend → AreMet g (noted n site c) pend
  met_noted c pend n site met = record {
    steps = λ m a y e is within past. is_met_more c (noted n site c) (λ s h. h) (some_kept c.over (n, site)) (λ h. h) (g.step a y.state) (met.steps m a y e is within past);
    goals = λ m y e alive unsure. some_or_else c.over (n, site);
  }

  pub met_marked : (c : Config S B) (pend : Option (ℕ × ℕ)) (f : Full) → AreMet g c pend → AreMet g (marked f c) pend
  met_marked c pend f met = record {
    steps = λ m a y e is within past. is_met_more c (marked f c) (λ s h. h) (λ h. h) (some_kept c.full f) (g.step a y.state) (met.steps m a y e is within past);
    goals = met.goals;
  }

  -- a box changes nothing here
  pub met_keeping : (c : Config S B) (pend : Option (ℕ × ℕ)) (box : B) → AreMet g c pend → AreMet g (keeping box c) pend
  met_keeping c pend box met = record {
    steps = λ m a y e is within past. is_met_more c (keeping box c) (λ s h. h) (λ h. h) (λ h. h) (g.step a y.state) (met.steps m a y e is within past);
    goals = met.goals;
  }

  -- another status of a node that wasn't closed

  pub node_changed : (nodes : List (Node S)) (n : ℕ) (st : Status) (s : S) → IsNode nodes s → IsNode (with_status nodes n st) s
  node_changed nodes n st s (m, y, there, is) =
      elim (cases_order m n) [
        | inl same ↦ (n, record y { status = st }, at_changed nodes n st y (subst (λ k. IsAt nodes k y) same there), is)
        | inr (inl less) ↦ (m, y, at_other nodes n st m y (λ same. omega arith) there, is)
        | inr (inr more) ↦ (m, y, at_other nodes n st m y (λ same. omega arith) there, is)
      ]

  pub node_before : (nodes : List (Node S)) (n : ℕ) (st : Status) (s : S) → IsNode (with_status nodes n st) s → IsNode nodes s
  node_before nodes n st s (m, y, there, is) =
      elim (at_before nodes n st m y there) [
        | inl (ne, old) ↦ (m, y, old, is)
        | inr (here, z, old, same) ↦ (n, z, old, sym (ap (λ u. u.state) same) ∙ is)
      ]

  parent_changed : (nodes : List (Node S)) (n : ℕ) (st : Status) (x : Node S) → IsAt nodes n x → x.status ≢ Closed → (m : ℕ) (y : Node S) → HasParent g nodes m y → HasParent g (with_status nodes n st) m y
  parent_changed nodes n st x at not_closed m y h = record {
    parent = h.parent;
    there = at_other nodes n st y.parent h.parent (λ same. not_closed (ap (λ z. z.status) (at_same nodes n x h.parent at (subst (λ k. IsAt nodes k h.parent) same h.there)) ∙ h.closed)) h.there;
    below = h.below;
    closed = h.closed;
    leads = h.leads;
  }

  pub tree_changed : (nodes : List (Node S)) (n : ℕ) (st : Status) (x : Node S) → IsAt nodes n x → x.status ≢ Closed → IsTree g nodes → IsTree g (with_status nodes n st)
  tree_changed nodes n st x at not_closed t = record {
    first = λ y e. let old = before 0 y e in let was = t.first old.0 old.1 in (old.2 ∙ was.0, old.3 ∙ was.1, old.4 ∙ was.2);
    states = λ m y e. let old = before m y e in subst g.IsState (sym old.2) (t.states m old.0 old.1);
    apart = λ m k y z p q same. let old = before m y p in let older = before k z q in t.apart m k old.0 older.0 old.1 older.1 (sym old.2 ∙ same ∙ older.2);
    parents = λ m y above e. elim (at_before nodes n st m y e) [
      | inl (ne, old) ↦ parent_changed nodes n st x at not_closed m y (t.parents m y above old)
      | inr (here, z, old, is) ↦ rw is (let h = parent_changed nodes n st x at not_closed m z (t.parents m z above (subst (λ k. IsAt nodes k z) (sym here) old)) in
          record { parent = h.parent; there = h.there; below = h.below; closed = h.closed; leads = h.leads })
    ];
  }
    where
      before : (m : ℕ) (y : Node S) → IsAt (with_status nodes n st) m y → (z : Node S) × IsAt nodes m z × (y.state ≡ z.state) × (y.parent ≡ z.parent) × (y.via ≡ z.via)
      before m y e =
          elim (at_before nodes n st m y e) [
            | inl (ne, old) ↦ (y, old, refl, refl, refl)
            | inr (here, z, old, is) ↦ (z, subst (λ k. IsAt nodes k z) (sym here) old, ap (λ u. u.state) is, ap (λ u. u.parent) is, ap (λ u. u.via) is)
          ]

  pub classed_changed : (nodes : List (Node S)) (boxes : List B) (n : ℕ) (st : Status) (x : Node S) → IsAt nodes n x → IsRightFor g boxes x.state st → AreClassed g nodes boxes → AreClassed g (with_status nodes n st) boxes
  classed_changed nodes boxes n st x at is c = record {
    classes = λ m y e. elim (at_before nodes n st m y e) [
      | inl (ne, old) ↦ c.classes m y old
      | inr (here, z, old, same) ↦ subst (λ u. IsRightFor g boxes u.state u.status) (sym same) (subst (λ u. IsRightFor g boxes u.state st) (at_same nodes n x z at old) is)
    ];
    dead = c.dead;
  }

  -- a node is taken
  pub met_taken : (c : Config S B) (n w : ℕ) (x : Node S) → IsAt c.nodes n x → IsAlive x.status → AreMet g c None → AreMet g (changed n (Taken w) c) None
  met_taken c n w x at alive met = record {
    steps = λ m a y e is within past. elim (at_before c.nodes n (Taken w) m y e) [
      | inl (ne, old) ↦ is_met_more c (changed n (Taken w) c) (node_changed c.nodes n (Taken w)) (λ h. h) (λ h. h) (g.step a y.state) (met.steps m a y old is within tt)
      | inr (here, z, old, same) ↦ let bad : Taken w ≡ Closed = sym (ap (λ u. u.status) same) ∙ is in cc
    ];
    goals = λ m y e lives unsure. elim (at_before c.nodes n (Taken w) m y e) [
      | inl (ne, old) ↦ met.goals m y old lives unsure
      | inr (here, z, old, same) ↦ met.goals n z old (subst (λ u. IsAlive u.status) (at_same c.nodes n x z at old) alive) (sym (ap (λ u. g.goal u.state) same) ∙ unsure)
    ];
  }

  -- its actions are to come
  pub met_closed : (c : Config S B) (n : ℕ) (x : Node S) → IsAt c.nodes n x → IsAlive x.status → AreMet g c None → AreMet g (changed n Closed c) (Some (n, 0))
  met_closed c n x at alive met = record {
    steps = λ m a y e is within past. elim (at_before c.nodes n Closed m y e) [
      | inl (ne, old) ↦ is_met_more c (changed n Closed c) (node_changed c.nodes n Closed) (λ h. h) (λ h. h) (g.step a y.state) (met.steps m a y old is within tt)
      | inr (here, z, old, same) ↦ absurd (let below : a < 0 = past here in omega arith)
    ];
    goals = λ m y e lives unsure. elim (at_before c.nodes n Closed m y e) [
      | inl (ne, old) ↦ met.goals m y old lives unsure
      | inr (here, z, old, same) ↦ met.goals n z old (subst (λ u. IsAlive u.status) (at_same c.nodes n x z at old) alive) (sym (ap (λ u. g.goal u.state) same) ∙ unsure)
    ];
  }

  -- one of them came
  pub met_settled : (c : Config S B) (n a : ℕ) (x : Node S) → IsAt c.nodes n x → IsMet g c (g.step a x.state) → AreMet g c (Some (n, a)) → AreMet g c (Some (n, suc a))
  met_settled c n a x at is_met met = record {
    steps = λ m k y e is within past. elim (cases_order k a) [
      | inl same ↦ elim (cases_order m n) [
        | inl here ↦ subst (λ i. IsMet g c (g.step i y.state)) (sym same) (subst (λ z. IsMet g c (g.step a z.state)) (at_same c.nodes n x y at (subst (λ i. IsAt c.nodes i y) here e)) is_met)
        | inr (inl less) ↦ met.steps m k y e is within (λ here. omega arith)
        | inr (inr more) ↦ met.steps m k y e is within (λ here. omega arith)
      ]
      | inr (inl less) ↦ met.steps m k y e is within (λ here. less)
      | inr (inr more) ↦ met.steps m k y e is within (λ here. let below : k < suc a = past here in omega arith)
    ];
    goals = met.goals;
  }

  -- all of them came
  pub met_done : (c : Config S B) (n : ℕ) → AreMet g c (Some (n, g.actions)) → AreMet g c None
  met_done c n met = record { steps = λ m k y e is within past. met.steps m k y e is within (λ here. within); goals = met.goals }
