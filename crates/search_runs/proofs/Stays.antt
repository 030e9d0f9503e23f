-- An answer stays an answer, whatever events come.
use Rattle.std.proofs.Common.{◌≡◌, ◌≢◌, ℕ, ◌<◌, ◌⊎◌, zero, suc, Bool, true, false, List, [], ◌∷◌, ◌++◌, Option, None, Some, refl, sym, ap, subst, ◌∙◌, inl, inr, lt-ltb, if◌then◌else◌, nat_lt}
use Rattle.std.specs.Prelude.{IsSome}
use Rattle.search_runs.specs.Answers.{first_where, is_goal, is_taken, is_waiting, answer_of, when_idle}
use Rattle.search_runs.specs.Nodes.{Config, changed}
use Rattle.search_runs.specs.Runs.{Leads, Meets, Gives, count_takes, has_starve}
use Rattle.search_runs.specs.Spaces.{Space, IsAt, Stepped, Blocked, Over, Next}
use Rattle.search_runs.specs.declared.answers.Answer.{Answer}
use Rattle.search_runs.specs.declared.answers.Answer.TheVariants.{Plan, Starved, Filled, Expansions, Exhausted}
use Rattle.search_runs.specs.declared.answers.Full.{Full}
use Rattle.search_runs.specs.declared.events.Event.{Event}
use Rattle.search_runs.specs.declared.events.Event.TheVariants.{Start, Take, Give, Starve}
use Rattle.search_runs.specs.declared.nodes.Node.{Node}
use Rattle.search_runs.specs.declared.nodes.Status.{Status}
use Rattle.search_runs.specs.declared.nodes.Status.TheVariants.{Waiting, Taken, Closed, Dead, Goal}
use Rattle.search_runs.specs.declared.answers.Answer.TheVariants as answer
use Rattle.search_runs.proofs.Places.{at_other}
use Rattle.search_runs.proofs.Whole.{at_entered}
use Rattle.std.specs.Option.{option_map}

pub starved-Starve : (j : List Event) (w : ℕ) → has_starve (j ++ Starve w ∷ []) ≡ true
starved-Starve [] w = refl
starved-Starve (Start ∷ j) w = starved-Starve j w
starved-Starve (Take v m ∷ j) w = starved-Starve j w
starved-Starve (Give v m ∷ j) w = starved-Starve j w
starved-Starve (Starve v ∷ j) w = refl

pub starved-more : (j : List Event) (e : Event) → has_starve j ≡ true → has_starve (j ++ e ∷ []) ≡ true
starved-more [] e is = cc
starved-more (Start ∷ j) e is = starved-more j e is
starved-more (Take v m ∷ j) e is = starved-more j e is
starved-more (Give v m ∷ j) e is = starved-more j e is
starved-more (Starve v ∷ j) e is = refl

-- where there is none, none is there
pub none_where : {S : Type 0} (p : Status → Bool) (nodes : List (Node S)) → first_where p nodes ≡ None → (n : ℕ) (x : Node S) → IsAt nodes n x → p x.status ≡ true → ⊥
none_where p [] none n x at is = cc
none_where p (y ∷ nodes) none n x at is = by (p y.status) refl none (λ rest m there. none_where p nodes rest m x there is)
  where
    by : (b : Bool) → p y.status ≡ b → (if b then Some 0 else option_map suc (first_where p nodes)) ≡ None → (first_where p nodes ≡ None → (m : ℕ) → IsAt nodes m x → ⊥) → ⊥
    by true here e rest = cc
    by false here e rest = elsewhere n at
      where
        no_rest : (o : Option ℕ) → option_map suc o ≡ None → o ≡ None
        no_rest None e = refl
        no_rest (Some k) e = cc

        elsewhere : (n : ℕ) → IsAt (y ∷ nodes) n x → ⊥
        elsewhere zero at = let same : y ≡ x = cc in let bad : false ≡ true = sym here ∙ ap (λ z. p z.status) same ∙ is in cc
        elsewhere (suc m) at = rest (no_rest (first_where p nodes) e) m at

pub some_where : {S : Type 0} (p : Status → Bool) (nodes : List (Node S)) (n : ℕ) → first_where p nodes ≡ Some n → (x : Node S) × IsAt nodes n x × (p x.status ≡ true)
some_where p [] n some = cc
some_where {S} p (y ∷ nodes) n some = by (p y.status) refl some (some_where p nodes)
  where
    by : (b : Bool) → p y.status ≡ b → (if b then Some 0 else option_map suc (first_where p nodes)) ≡ Some n → ((m : ℕ) → first_where p nodes ≡ Some m → (x : Node S) × IsAt nodes m x × (p x.status ≡ true)) → (x : Node S) × IsAt (y ∷ nodes) n x × (p x.status ≡ true)
    by true here e rest = let zero_is : zero ≡ n = cc in (y, subst (λ k. IsAt (y ∷ nodes) k y) zero_is refl, here)
    by false here e rest = elsewhere (first_where p nodes) refl e
      where
        elsewhere : (o : Option ℕ) → first_where p nodes ≡ o → option_map suc o ≡ Some n → (x : Node S) × IsAt (y ∷ nodes) n x × (p x.status ≡ true)
        elsewhere None was e = cc
        elsewhere (Some m) was e = let r = rest m was in let next : suc m ≡ n = cc in (r.0, subst (λ k. IsAt (y ∷ nodes) k r.0) next r.1, r.2)

pub where_some : {S : Type 0} (p : Status → Bool) (nodes : List (Node S)) (n : ℕ) (x : Node S) → IsAt nodes n x → p x.status ≡ true → IsSome (first_where p nodes)
where_some p nodes n x at is = by (first_where p nodes) refl
  where
    by : (o : Option ℕ) → first_where p nodes ≡ o → IsSome o
    by None none = absurd (none_where p nodes none n x at is)
    by (Some k) some = refl

module _ {S B : Type 0} (limit : ℕ) where
  if_goal : (j : List Event) (c : Config S B) → IsSome (first_where is_goal c.nodes) → IsSome (answer_of limit j c)
  if_goal j c some = by (first_where is_goal c.nodes) some
    where
      by : (o : Option ℕ) → IsSome o → IsSome (elim o as (λ _. Option Answer) [ Some n ↦ Some (Plan n) | None ↦ if has_starve j then Some Starved else elim (first_where is_taken c.nodes) [ Some n ↦ None | None ↦ when_idle limit j c ] ])
      by None is = cc
      by (Some n) is = refl

  if_starved : (j : List Event) (c : Config S B) → has_starve j ≡ true → IsSome (answer_of limit j c)
  if_starved j c starved = by (first_where is_goal c.nodes)
    where
      by : (o : Option ℕ) → IsSome (elim o as (λ _. Option Answer) [ Some n ↦ Some (Plan n) | None ↦ if has_starve j then Some Starved else elim (first_where is_taken c.nodes) [ Some n ↦ None | None ↦ when_idle limit j c ] ])
      by None = rw starved refl
      by (Some n) = refl

  -- why there is an answer
  pub why : (j : List Event) (c : Config S B) → IsSome (answer_of limit j c)
      → IsSome (first_where is_goal c.nodes) ⊎ (has_starve j ≡ true) ⊎ ((first_where is_taken c.nodes ≡ None) × IsSome (when_idle limit j c))
  why j c some = by (first_where is_goal c.nodes) some
    where
      last : (o : Option ℕ) → first_where is_taken c.nodes ≡ o → IsSome (elim o as (λ _. Option Answer) [ Some n ↦ None | None ↦ when_idle limit j c ]) → (first_where is_taken c.nodes ≡ None) × IsSome (when_idle limit j c)
      last None e is = (e, is)
      last (Some n) e is = cc

      next : (b : Bool) → has_starve j ≡ b → IsSome (if b then Some Starved else elim (first_where is_taken c.nodes) as (λ _. Option Answer) [ Some n ↦ None | None ↦ when_idle limit j c ])
          → (has_starve j ≡ true) ⊎ ((first_where is_taken c.nodes ≡ None) × IsSome (when_idle limit j c))
      next true e is = inl e
      next false e is = inr (last (first_where is_taken c.nodes) refl is)

      by : (o : Option ℕ) → IsSome (elim o as (λ _. Option Answer) [ Some n ↦ Some (Plan n) | None ↦ if has_starve j then Some Starved else elim (first_where is_taken c.nodes) [ Some n ↦ None | None ↦ when_idle limit j c ] ])
          → IsSome o ⊎ (has_starve j ≡ true) ⊎ ((first_where is_taken c.nodes ≡ None) × IsSome (when_idle limit j c))
      by None is = elim (next (has_starve j) refl is) [ inl s ↦ inr (inl s) | inr r ↦ inr (inr r) ]
      by (Some n) is = inl refl

  -- who waits may be taken while there is room in the limit and no mark: then there is no answer
  waiting_none : (j : List Event) (c : Config S B) (n h : ℕ) (x : Node S) → IsAt c.nodes n x → x.status ≡ Waiting h → c.full ≡ None → count_takes j < limit → IsSome (when_idle limit j c) → ⊥
  waiting_none j c n h x at wait no_mark below some = by c.full no_mark (first_where is_waiting c.nodes) (where_some is_waiting c.nodes n x at (ap is_waiting wait)) some
    where
      by : (f : Option Full) → f ≡ None → (o : Option ℕ) → IsSome o
          → IsSome (elim f as (λ _. Option Answer) [ Some k ↦ Some (Filled k) | None ↦ elim o [ Some m ↦ if nat_lt (count_takes j) limit then None else Some Expansions | None ↦ elim c.over [ Some p ↦ Some (answer.Over p.0 p.1) | None ↦ Some Exhausted ] ] ]) → ⊥
      by (Some k) mark o is_there some = cc
      by None mark None is_there some = cc
      by None mark (Some m) is_there some = let bad : IsSome (if true then None else Some Expansions) = rw (lt-ltb (count_takes j) limit below) at some in cc

module _ {S B : Type 0} (g : Space S B) where
  pub at_met : (n a : ℕ) (step : Stepped S) (c d : Config S B) (m : ℕ) (x : Node S) → Meets g n a step c d → IsAt c.nodes m x → IsAt d.nodes m x
  at_met n a Blocked c d m x is at = rw is at
  at_met n a Over c d m x is at = rw is at
  at_met n a (Next s) c d m x (inl (there, is)) at = rw is at
  at_met n a (Next s) c d m x (inr (none, enters)) at = at_entered g c d s n a m x enters at

  pub at_given : (left n : ℕ) (s : S) (a : ℕ) (c d : Config S B) (m : ℕ) (x : Node S) → Gives g n s a left c d → IsAt c.nodes m x → IsAt d.nodes m x
  at_given zero n s a c d m x is at = rw is at
  at_given (suc left) n s a c d m x (mid, meet, rest) at = at_given left n s (suc a) mid d m x rest (at_met n a (g.step a s) c mid m x meet at)

  goal_stays : (j : List Event) (c : Config S B) (e : Event) (d : Config S B) → Leads g j c e d → (m : ℕ) (x : Node S) → IsAt c.nodes m x → x.status ≡ Goal → IsSome (first_where is_goal d.nodes)
  goal_stays j c Start d is m x at goal = absurd is
  goal_stays j c (Take w n) d is m x at goal = absurd (is.no_goal m x at goal)
  goal_stays j c (Give w n) d is m x at goal =
      let other : m ≢ n = λ same. (let there : IsAt c.nodes m is.node = subst (λ k. IsAt c.nodes k is.node) (sym same) is.there in let one : x ≡ is.node = cc in let bad : Goal ≡ Taken w = sym goal ∙ ap (λ z. z.status) one ∙ is.taken in cc) in
      where_some is_goal d.nodes m x (at_given g.actions n is.node.state 0 (changed n Closed c) d m x is.after (at_other c.nodes n Closed m x other at)) (ap is_goal goal)
  goal_stays j c (Starve w) d is m x at goal = where_some is_goal d.nodes m x (rw is.after at) (ap is_goal goal)

  pub is_goal_only : (st : Status) → is_goal st ≡ true → st ≡ Goal
  is_goal_only (Waiting h) is = cc
  is_goal_only (Taken w) is = cc
  is_goal_only Closed is = cc
  is_goal_only Goal is = refl
  is_goal_only (Dead b) is = cc

  idle : (j : List Event) (c : Config S B) (e : Event) (d : Config S B) → Leads g j c e d → first_where is_taken c.nodes ≡ None → IsSome (when_idle g.limit j c) → IsSome (answer_of g.limit (j ++ e ∷ []) d)
  idle j c Start d is none some = absurd is
  idle j c (Take w n) d is none some = absurd (waiting_none g.limit j c n is.h is.is_least.node is.is_least.there is.is_least.waits is.no_mark is.below some)
  idle j c (Give w n) d is none some = absurd (none_where is_taken c.nodes none n is.node is.there (ap is_taken is.taken))
  idle j c (Starve w) d is none some = if_starved g.limit (j ++ Starve w ∷ []) d (starved-Starve j w)

  pub stays : (j : List Event) (c : Config S B) (e : Event) (d : Config S B) → Leads g j c e d → IsSome (answer_of g.limit j c) → IsSome (answer_of g.limit (j ++ e ∷ []) d)
  stays j c e d is some =
      elim (why g.limit j c some) [
        | inl goal ↦ if_goal g.limit (j ++ e ∷ []) d (by (first_where is_goal c.nodes) refl goal)
        | inr (inl starved) ↦ if_starved g.limit (j ++ e ∷ []) d (starved-more j e starved)
        | inr (inr (none, idle_some)) ↦ idle j c e d is none idle_some
      ]
    where
      by : (o : Option ℕ) → first_where is_goal c.nodes ≡ o → IsSome o → IsSome (first_where is_goal d.nodes)
      by None e is_there = cc
      by (Some n) e is_there = let r = some_where is_goal c.nodes n e in goal_stays j c _ d is n r.0 r.1 (is_goal_only r.0.status r.2)
