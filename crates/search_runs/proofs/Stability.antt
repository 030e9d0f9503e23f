-- What an event leaves as it was, and when a worker may take a node.
use Rattle.std.proofs.Common.{◌≡◌, ℕ, ◌<◌, Bool, true, false, List, Option, None, Some, refl, sym, ap, subst, ◌∙◌, inl, inr, arith, if◌then◌else◌, nat_lt}
use Rattle.std.proofs.lemmas.Bool.{cases_order, ltb-true}
use Rattle.search_runs.specs.Answers.{is_taken, is_waiting, is_goal, first_where, when_idle, answer_of}
use Rattle.search_runs.specs.Later.{Stays, MayTake}
use Rattle.search_runs.specs.Nodes.{Config, changed}
use Rattle.search_runs.specs.Runs.{count_takes, has_starve, IsLeastWaiting, Leads, Takes}
use Rattle.search_runs.specs.Spaces.{Space, IsAt}
use Rattle.search_runs.specs.declared.answers.Answer.{Answer}
use Rattle.search_runs.specs.declared.answers.Answer.TheVariants.{Plan, Exhausted, Expansions, Filled, Starved}
use Rattle.search_runs.specs.declared.answers.Answer.TheVariants as answer
use Rattle.search_runs.specs.declared.answers.Full.{Full}
use Rattle.search_runs.specs.declared.answers.Site.{Site}
use Rattle.search_runs.specs.declared.events.Event.{Event}
use Rattle.search_runs.specs.declared.events.Event.TheVariants.{Start, Take, Give, Starve}
use Rattle.search_runs.specs.declared.nodes.Node.{Node}
use Rattle.search_runs.specs.declared.nodes.Status.TheVariants.{Waiting, Taken, Closed}
use Rattle.search_runs.proofs.Finding.{find_least, waits_only}
use Rattle.search_runs.proofs.Places.{at_changed, at_other, at_same}
use Rattle.search_runs.proofs.Stays.{at_given, none_where, some_where}

module _ {S B : Type 0} (g : Space S B) where
  same_node : (e : Event) (n : ℕ) (x : Node S) (d : Config S B) → IsAt d.nodes n x → Stays e n x d
  same_node e n x d at = record { node = x; there = at; state = refl; parent = refl; via = refl; taken = λ w is other. is }

  took : (j : List Event) (c : Config S B) (w m : ℕ) (d : Config S B) → Takes g.workers g.limit j c w m d → (n : ℕ) (x : Node S) → IsAt c.nodes n x → Stays (Take w m) n x d
  took j c w m d is n x at =
      elim (cases_order n m) [
        | inl same ↦ here same
        | inr (inl less) ↦ same_node (Take w m) n x d (rw is.after (at_other c.nodes m (Taken w) n x (λ same. omega arith) at))
        | inr (inr more) ↦ same_node (Take w m) n x d (rw is.after (at_other c.nodes m (Taken w) n x (λ same. omega arith) at))
      ]
    where
      here : n ≡ m → Stays (Take w m) n x d
      here same =
          let there : IsAt c.nodes m x = subst (λ k. IsAt c.nodes k x) same at in
          let one : x ≡ is.is_least.node = at_same c.nodes m x is.is_least.node there is.is_least.there in
          record {
            node = record x { status = Taken w };
            there = subst (λ k. IsAt d.nodes k (record x { status = Taken w })) (sym same) (rw is.after (at_changed c.nodes m (Taken w) x there));
            state = refl;
            parent = refl;
            via = refl;
            taken = λ v taken other. (let bad : Waiting is.h ≡ Taken v = sym is.is_least.waits ∙ sym (ap (λ z. z.status) one) ∙ taken in cc);
          }

  -- an event leaves each node's state, parent and action, and a taken node's status, unless it gives that node
  pub stays_at : (j : List Event) (c : Config S B) (e : Event) (d : Config S B) → Leads g j c e d → (n : ℕ) (x : Node S) → IsAt c.nodes n x → Stays e n x d
  stays_at j c Start d is n x at = absurd is
  stays_at j c (Take w m) d is n x at = took j c w m d is n x at
  stays_at j c (Give w m) d is n x at =
      elim (cases_order n m) [
        | inl same ↦ here same
        | inr (inl less) ↦ same_node (Give w m) n x d (at_given g g.actions m is.node.state 0 (changed m Closed c) d n x is.after (at_other c.nodes m Closed n x (λ same. omega arith) at))
        | inr (inr more) ↦ same_node (Give w m) n x d (at_given g g.actions m is.node.state 0 (changed m Closed c) d n x is.after (at_other c.nodes m Closed n x (λ same. omega arith) at))
      ]
    where
      here : n ≡ m → Stays (Give w m) n x d
      here same =
          let there : IsAt c.nodes m x = subst (λ k. IsAt c.nodes k x) same at in
          let one : x ≡ is.node = at_same c.nodes m x is.node there is.there in
          let closed : Node S = record x { status = Closed } in
          record {
            node = closed;
            there = subst (λ k. IsAt d.nodes k closed) (sym same) (at_given g g.actions m is.node.state 0 (changed m Closed c) d m closed is.after (at_changed c.nodes m Closed x there));
            state = refl;
            parent = refl;
            via = refl;
            taken = λ v taken other. (let both : Taken v ≡ Taken w = sym taken ∙ ap (λ z. z.status) one ∙ is.taken in
                let equal : v ≡ w = cc in
                let gives : Give w m ≡ Give v n = (λ i. Give (sym equal i) (sym same i)) in
                absurd (other gives));
          }
  stays_at j c (Starve w) d is n x at = same_node (Starve w) n x d (rw is.after at)

by_limit : (limit : ℕ) (j : List Event) (b : Bool) → nat_lt (count_takes j) limit ≡ b → (if b then None else Some Expansions) ≡ None → nat_lt (count_takes j) limit ≡ true
by_limit limit j true e is = e
by_limit limit j false e is = cc

module _ {S B : Type 0} (limit : ℕ) where
  -- why there is no answer yet, where no node is taken
  by_waiting : (j : List Event) (c : Config S B) (o : Option ℕ) → first_where is_waiting c.nodes ≡ o
      → (elim o as (λ _. Option Answer) [ Some n ↦ if nat_lt (count_takes j) limit then None else Some Expansions | None ↦ elim c.over [ Some p ↦ Some (answer.Over p.0 p.1) | None ↦ Some Exhausted ] ]) ≡ None
      → ((n : ℕ) × (first_where is_waiting c.nodes ≡ Some n)) × (nat_lt (count_takes j) limit ≡ true)
  by_waiting j c (Some n) e is = ((n, e), by_limit limit j (nat_lt (count_takes j) limit) refl is)
  by_waiting j c None e is = by c.over is
    where
      by : (o : Option (ℕ × Site)) → (elim o as (λ _. Option Answer) [ Some p ↦ Some (answer.Over p.0 p.1) | None ↦ Some Exhausted ]) ≡ None → ((n : ℕ) × (first_where is_waiting c.nodes ≡ Some n)) × (nat_lt (count_takes j) limit ≡ true)
      by (Some p) is = cc
      by None is = cc

  pub record IsReady (j : List Event) (c : Config S B) : Type 0 where
    pub no_goal : first_where is_goal c.nodes ≡ None
    pub none_starved : has_starve j ≡ false
    pub no_mark : c.full ≡ None
    pub waits : (n : ℕ) × (first_where is_waiting c.nodes ≡ Some n)
    pub below : nat_lt (count_takes j) limit ≡ true

  by_mark : (j : List Event) (c : Config S B) (o : Option Full) → c.full ≡ o
      → (elim o as (λ _. Option Answer) [ Some f ↦ Some (Filled f) | None ↦ elim (first_where is_waiting c.nodes) [ Some n ↦ if nat_lt (count_takes j) limit then None else Some Expansions | None ↦ elim c.over [ Some p ↦ Some (answer.Over p.0 p.1) | None ↦ Some Exhausted ] ] ]) ≡ None
      → first_where is_goal c.nodes ≡ None → has_starve j ≡ false → IsReady j c
  by_mark j c (Some f) e is no_goal none_starved = cc
  by_mark j c None e is no_goal none_starved =
      let w = by_waiting j c (first_where is_waiting c.nodes) refl is in
      record { no_goal = no_goal; none_starved = none_starved; no_mark = e; waits = w.0; below = w.1 }

  pub ready : (j : List Event) (c : Config S B) → answer_of limit j c ≡ None → first_where is_taken c.nodes ≡ None → IsReady j c
  ready j c none idle = by_goal (first_where is_goal c.nodes) refl none
    where
      by_taken : first_where is_goal c.nodes ≡ None → has_starve j ≡ false → (o : Option ℕ) → first_where is_taken c.nodes ≡ o → (elim o as (λ _. Option Answer) [ Some n ↦ None | None ↦ when_idle limit j c ]) ≡ None → IsReady j c
      by_taken no_goal none_starved (Some n) e is = let bad : None ≡ Some n = sym idle ∙ e in cc
      by_taken no_goal none_starved None e is = by_mark j c c.full refl is no_goal none_starved

      by_starve : first_where is_goal c.nodes ≡ None → (b : Bool) → has_starve j ≡ b → (if b then Some Starved else elim (first_where is_taken c.nodes) as (λ _. Option Answer) [ Some n ↦ None | None ↦ when_idle limit j c ]) ≡ None → IsReady j c
      by_starve no_goal true e is = cc
      by_starve no_goal false e is = by_taken no_goal e (first_where is_taken c.nodes) refl is

      by_goal : (o : Option ℕ) → first_where is_goal c.nodes ≡ o
          → (elim o as (λ _. Option Answer) [ Some n ↦ Some (Plan n) | None ↦ if has_starve j then Some Starved else elim (first_where is_taken c.nodes) [ Some n ↦ None | None ↦ when_idle limit j c ] ]) ≡ None → IsReady j c
      by_goal (Some n) e is = cc
      by_goal None e is = by_starve e (has_starve j) refl is

  -- no goal is reached and no worker starved, where there is no answer yet
  pub going : (j : List Event) (c : Config S B) → answer_of limit j c ≡ None → (first_where is_goal c.nodes ≡ None) × (has_starve j ≡ false)
  going j c none = by_goal (first_where is_goal c.nodes) refl none
    where
      by_starve : first_where is_goal c.nodes ≡ None → (b : Bool) → has_starve j ≡ b → (if b then Some Starved else elim (first_where is_taken c.nodes) as (λ _. Option Answer) [ Some n ↦ None | None ↦ when_idle limit j c ]) ≡ None
          → (first_where is_goal c.nodes ≡ None) × (has_starve j ≡ false)
      by_starve no_goal true e is = cc
      by_starve no_goal false e is = (no_goal, e)

      by_goal : (o : Option ℕ) → first_where is_goal c.nodes ≡ o
          → (elim o as (λ _. Option Answer) [ Some n ↦ Some (Plan n) | None ↦ if has_starve j then Some Starved else elim (first_where is_taken c.nodes) [ Some n ↦ None | None ↦ when_idle limit j c ] ]) ≡ None → (first_where is_goal c.nodes ≡ None) × (has_starve j ≡ false)
      by_goal (Some n) e is = cc
      by_goal None e is = by_starve e (has_starve j) refl is

module _ {S B : Type 0} (g : Space S B) where
  least_there : (nodes : List (Node S)) (n : ℕ) → first_where is_waiting nodes ≡ Some n → (m : ℕ) × (h : ℕ) × IsLeastWaiting nodes m h
  least_there nodes n is =
      let (x, at, waiting) = some_where is_waiting nodes n is in
      let status = waits_only x.status waiting in
      elim (find_least g nodes) [
        | inl least ↦ least
        | inr none ↦ absurd (none n status.0 x at status.1)
      ]

  -- where no node is taken and there is no answer, any worker may take one
  pub may_take : (j : List Event) (c : Config S B) (w : ℕ) → w < g.workers → answer_of g.limit j c ≡ None → first_where is_taken c.nodes ≡ None → MayTake g j c w
  may_take j c w worker none idle =
      let is = ready g.limit j c none idle in
      let (m, h, least) = least_there c.nodes is.waits.0 is.waits.1 in (
        m,
        changed m (Taken w) c,
        record {
          worker = worker;
          no_goal = λ k x at goal. none_where is_goal c.nodes is.no_goal k x at (ap is_goal goal);
          no_mark = is.no_mark;
          below = ltb-true (count_takes j) g.limit is.below;
          none_starved = is.none_starved;
          h = h;
          is_least = least;
          after = refl;
        },
      )
