-- A search by one worker that keeps least closed boxes alone.
use Rattle.std.proofs.Common.{◌≡◌, ℕ, zero, suc, Bool, true, false, List, [], ◌∷◌, ◌++◌, ◌+◌, Option, None, Some, refl, sym, ap, subst, ◌∙◌, inl, inr, arith}
use Rattle.std.specs.Option.{option_map}
use Rattle.std.specs.Prelude.{IsSome, if◌then◌else◌}
use Rattle.ground_task.specs.States.{StateValue}
use Rattle.ground_task.specs.Tasks.{TaskValue, first_state}
use Rattle.box_model.specs.declared.state_box.StateBox.{StateBox}
use Rattle.explored.specs.declared.classes.Most.{Most}
use Rattle.search_nodes.specs.Tables.{config_of}
use Rattle.search_nodes.specs.declared.views.View.{View}
use Rattle.search_runs.proofs.Places.{at_before, at_changed, at_longer}
use Rattle.search_runs.proofs.Stays.{none_where, some_where, where_some}
use Rattle.search_runs.specs.Answers.{count, first_where, is_goal, is_taken, is_waiting}
use Rattle.search_runs.specs.Nodes.{Config, changed, with_status}
use Rattle.search_runs.specs.PlainRuns.{PlainRun, goes_on, starts}
use Rattle.search_runs.specs.Runs.{Enters, no_room, in_kept, no_box, in_own, reaches, waits, waits_over, Gives, Meets, Takes, has_starve, Run}
use Rattle.search_runs.specs.Spaces as runs
use Rattle.search_runs.specs.Spaces.{IsAt, Space, Stepped}
use Rattle.search_runs.specs.declared.answers.Answer.{Answer}
use Rattle.search_runs.specs.declared.events.Event.{Event}
use Rattle.search_runs.specs.declared.events.Event.TheVariants.{Give, Take}
use Rattle.search_runs.specs.declared.nodes.Node.{Node}
use Rattle.search_runs.specs.declared.nodes.Status.{Status}
use Rattle.search_runs.specs.declared.nodes.Status.TheVariants.{Waiting, Taken, Closed, Goal, Dead}
use Rattle.search_turns.proofs.Answering.{answer_idle_at, answer_taken_at, idle_open}
use Rattle.search_turns.proofs.Counting.{starve_Take}
use Rattle.search_turns.specs.Turns as turns
use Rattle.search_turns.specs.Turns.{IsNotYet, Turns, answer_in}
use Rattle.search_core.proofs.Events.{entered_first}
use Rattle.search_records.proofs.TaskLaws.{least_keeps}
use Rattle.search_records.specs.Records.{IsLegal, IsPlain, bounds}
use Rattle.search_core.specs.Records.{record_of}
use Rattle.search_core.specs.Searches.{IsEvent, IsPlainSearch, IsPlainlyGiven, IsSearch, space_in}
use Rattle.search_records.specs.Spaces.{LeastDead, plain_space_of, space_of}
use Rattle.search_core.specs.Views.{IsRightView}

-- ---- where no node has a status

-- where no node is such, none is found
no_where : {S : Type 0} (p : Status → Bool) (nodes : List (Node S)) → ((n : ℕ) (x : Node S) → IsAt nodes n x → p x.status ≡ true → ⊥) → first_where p nodes ≡ None
no_where p nodes none = by (first_where p nodes) refl
  where
    by : (o : Option ℕ) → first_where p nodes ≡ o → first_where p nodes ≡ None
    by None e = e
    by (Some n) e = let r = some_where p nodes n e in absurd (none n r.0 r.1 r.2)

none_snoc : {S : Type 0} (p : Status → Bool) (nodes : List (Node S)) (x : Node S) → first_where p nodes ≡ None → p x.status ≡ false → first_where p (nodes ++ x ∷ []) ≡ None
none_snoc p nodes x none other =
    no_where p (nodes ++ x ∷ []) (λ n y at is.
    elim (at_longer nodes x n y at) [
      | inl old ↦ none_where p nodes none n y old is
      | inr (here, same) ↦ let bad : true ≡ false = sym is ∙ ap (λ z. p z.status) same ∙ other in cc
    ])

abbrev NoneTaken : {S : Type 0} → List (Node S) → Type 0
NoneTaken nodes = first_where is_taken nodes ≡ None

none_expanded : {S : Type 0} (nodes : List (Node S)) (n w : ℕ) → NoneTaken nodes → NoneTaken (with_status (with_status nodes n (Taken w)) n Closed)
none_expanded nodes n w none =
    no_where is_taken (with_status (with_status nodes n (Taken w)) n Closed) (λ m x at is.
    elim (at_before (with_status nodes n (Taken w)) n Closed m x at) [
      | inl (other, old) ↦
          elim (at_before nodes n (Taken w) m x old) [
            | inl (still, older) ↦ none_where is_taken nodes none m x older is
            | inr (here, y, there, same) ↦ absurd (other here)
          ]
      | inr (here, y, there, same) ↦ let bad : true ≡ false = sym is ∙ ap (λ z. is_taken z.status) same in cc
    ])

-- ---- what a give adds isn't taken

module _ {S B : Type 0} (g : Space S B) where
  entered_none : (s : S) (parent via : ℕ) (c c' : Config S B) → Enters g s parent via c c' → NoneTaken c.nodes → NoneTaken c'.nodes
  entered_none s parent via c c' (no_room full is) none = subst (λ (d : Config S B). NoneTaken d.nodes) (sym is) none
  entered_none s parent via c c' (in_kept b room first is) none = subst (λ (d : Config S B). NoneTaken d.nodes) (sym is) (none_snoc is_taken c.nodes _ none refl)
  entered_none s parent via c c' (no_box room out dead full is) none = subst (λ (d : Config S B). NoneTaken d.nodes) (sym is) none
  entered_none s parent via c c' (in_own b room out keep less is) none = subst (λ (d : Config S B). NoneTaken d.nodes) (sym is) (none_snoc is_taken c.nodes _ none refl)
  entered_none s parent via c c' (reaches room goal is) none = subst (λ (d : Config S B). NoneTaken d.nodes) (sym is) (none_snoc is_taken c.nodes _ none refl)
  entered_none s parent via c c' (waits h room live estimate goal is) none = subst (λ (d : Config S B). NoneTaken d.nodes) (sym is) (none_snoc is_taken c.nodes _ none refl)
  entered_none s parent via c c' (waits_over h room live estimate goal is) none = subst (λ (d : Config S B). NoneTaken d.nodes) (sym is) (none_snoc is_taken c.nodes _ none refl)

  met_none : (n a : ℕ) (x : Stepped S) (c c' : Config S B) → Meets g n a x c c' → NoneTaken c.nodes → NoneTaken c'.nodes
  met_none n a runs.Blocked c c' is none = subst (λ (d : Config S B). NoneTaken d.nodes) (sym is) none
  met_none n a runs.Over c c' is none = subst (λ (d : Config S B). NoneTaken d.nodes) (sym is) none
  met_none n a (runs.Next s) c c' (inl (known, is)) none = subst (λ (d : Config S B). NoneTaken d.nodes) (sym is) none
  met_none n a (runs.Next s) c c' (inr (new, entered)) none = entered_none s n a c c' entered none

  given_none : (n : ℕ) (s : S) (a left : ℕ) (c c' : Config S B) → Gives g n s a left c c' → NoneTaken c.nodes → NoneTaken c'.nodes
  given_none n s a zero c c' is none = subst (λ (d : Config S B). NoneTaken d.nodes) (sym is) none
  given_none n s a (suc left) c c' (mid, met, rest) none = given_none n s (suc a) left mid c' rest (met_none n a (g.step a s) c mid met none)

-- ---- while a node is taken there is no answer, and where one may be taken neither

goal_only : (st : Status) → is_goal st ≡ true → st ≡ Goal
goal_only (Waiting h) is = cc
goal_only (Taken w) is = cc
goal_only Closed is = cc
goal_only Goal is = refl
goal_only (Dead b) is = cc

some_of : (o : Option ℕ) → IsSome o → (n : ℕ) × (o ≡ Some n)
some_of None is = cc
some_of (Some n) is = (n, refl)

module _ (w n : ℕ) (old new : Turns) (event : IsEvent (Take w n) old new) where
  no_goal_after : first_where is_goal new.table.nodes ≡ None
  no_goal_after =
      no_where is_goal new.table.nodes (λ m x at is.
      let before : IsAt (with_status old.table.nodes n (Taken w)) m x = subst (λ (d : Config StateValue StateBox). IsAt d.nodes m x) event.leads.after at in
      elim (at_before old.table.nodes n (Taken w) m x before) [
        | inl (other, there) ↦ event.leads.no_goal m x there (goal_only x.status is)
        | inr (here, y, there, same) ↦ let bad : true ≡ false = sym is ∙ ap (λ z. is_goal z.status) same in cc
      ])

  pub taken_is_open : answer_in new ≡ None
  taken_is_open =
      let least = event.leads.is_least in
      let changed_is : IsAt (with_status old.table.nodes n (Taken w)) n (record least.node { status = Taken w }) = at_changed old.table.nodes n (Taken w) least.node least.there in
      let there : IsAt new.table.nodes n (record least.node { status = Taken w }) = subst (λ (d : Config StateValue StateBox). IsAt d.nodes n (record least.node { status = Taken w })) (sym event.leads.after) changed_is in
      let some = some_of (first_where is_taken new.table.nodes) (where_some is_taken new.table.nodes n (record least.node { status = Taken w }) there refl) in
      let fed : has_starve new.journal ≡ false = ap has_starve event.journal ∙ starve_Take old.journal w n ∙ event.leads.none_starved in
      answer_taken_at new.limit new.journal (config_of new.table) some.0 no_goal_after fed some.1

  open_before : NoneTaken old.table.nodes → answer_in old ≡ None
  open_before none =
      let least = event.leads.is_least in
      let no_goal : first_where is_goal old.table.nodes ≡ None = no_where is_goal old.table.nodes (λ m x at is. event.leads.no_goal m x at (goal_only x.status is)) in
      answer_idle_at old.limit old.journal (config_of old.table) no_goal event.leads.none_starved none
      ∙ idle_open old.limit old.journal (config_of old.table) event.leads.no_mark (where_some is_waiting old.table.nodes n least.node least.there (ap is_waiting least.waits)) event.leads.below

-- ---- a plain search

pub plain_start : (t : TaskValue) (limit workers : ℕ) (most : Most) (found : View) (v : Turns) → workers ≡ 1 → IsRightView LeastDead t (first_state t.raw t.places) found → turns.IsStarted t limit workers most found v → IsPlainSearch v
plain_start t limit workers most found v one right is =
    let enters = entered_first LeastDead least_keeps t limit 1 most found v right (record {
      task_is = is.task_is;
      most_is = is.most_is;
      limit_is = is.limit_is;
      workers_is = is.workers_is ∙ one;
      entered = is.entered;
      journal = is.journal;
    }) in
    record {
      one = is.workers_is ∙ one;
      none_taken = entered_none (plain_space_of t limit most) (first_state t.raw t.places) 0 0 _ (config_of v.table) enters refl;
      plain = rw (is.task_is, is.most_is, is.limit_is, is.journal) (starts (config_of v.table) enters);
    }

module _ (n : ℕ) (old mid new : Turns) (is : IsPlainSearch old) (taken : IsEvent (Take 0 n) old mid) (given : IsEvent (Give 0 n) mid new) (plainly : IsPlainlyGiven 0 n mid new) where
  abbrev space : Space StateValue StateBox
  space = plain_space_of old.table.task old.limit old.table.most

  taken_plain : PlainRun space mid.journal (config_of mid.table)
  taken_plain =
      let takes : Takes 1 old.limit old.journal (config_of old.table) 0 n (config_of mid.table) =
      subst (λ (k : ℕ). Takes k old.limit old.journal (config_of old.table) 0 n (config_of mid.table)) is.one taken.leads in
      subst (λ (j : List Event). PlainRun space j (config_of mid.table)) (sym taken.journal)
      (goes_on old.journal (config_of old.table) (Take 0 n) (config_of mid.table) is.plain (open_before 0 n old mid taken is.none_taken) is.none_taken takes)

  given_plain : PlainRun (plain_space_of new.table.task new.limit new.table.most) new.journal (config_of new.table)
  given_plain =
      let at_mid : PlainRun (plain_space_of mid.table.task mid.limit mid.table.most) mid.journal (config_of mid.table) = rw (taken.terms.task, taken.terms.limit, taken.terms.most) taken_plain in
      rw (given.terms.task, given.terms.limit, given.terms.most, given.journal)
      (goes_on mid.journal (config_of mid.table) (Give 0 n) (config_of new.table) at_mid (taken_is_open 0 n old mid taken) tt plainly)

  none_after : NoneTaken new.table.nodes
  none_after =
      let closed : NoneTaken (with_status mid.table.nodes n Closed) =
      subst (λ (d : Config StateValue StateBox). NoneTaken (with_status d.nodes n Closed)) (sym taken.leads.after) (none_expanded old.table.nodes n 0 is.none_taken) in
      given_none (space_in mid) n given.leads.node.state 0 (space_in mid).actions (changed n Closed (config_of mid.table)) (config_of new.table) given.leads.after closed

  pub plain_expansion : IsPlainSearch new
  plain_expansion = record { one = given.terms.workers ∙ taken.terms.workers ∙ is.one; none_taken = none_after; plain = given_plain }

-- a worker that asks is never put off
pub never_put_off : (w k : ℕ) (v after : Turns) → IsPlainSearch v → IsNotYet w k v after → ⊥
never_put_off w k v after is not_yet =
    let none : count is_taken v.table.nodes ≡ 0 = none_counted v.table.nodes is.none_taken in
    omega (arith, not_yet.count_is, not_yet.some, none)
  where
    none_counted : (nodes : List (Node StateValue)) → NoneTaken nodes → count is_taken nodes ≡ 0
    none_counted [] none = refl
    none_counted (x ∷ nodes) none = by (is_taken x.status) none (none_counted nodes)
      where
        unmapped : (o : Option ℕ) → option_map suc o ≡ None → o ≡ None
        unmapped None e = refl
        unmapped (Some m) e = cc

        by : (b : Bool) → (if b then Some 0 else option_map suc (first_where is_taken nodes)) ≡ None → (NoneTaken nodes → count is_taken nodes ≡ 0) → (if b then 1 else 0) + count is_taken nodes ≡ 0
        by true some rest = cc
        by false some rest = omega (arith, rest (unmapped (first_where is_taken nodes) some))

-- and it ends as a plain record
pub plain_record : (v : Turns) (a : Answer) → IsPlainSearch v → v.table.most ≡ bounds → answer_in v ≡ Some a → IsPlain v.table.task v.limit (record_of v)
plain_record v a is most found = record {
  task_is = refl;
  limit_is = refl;
  run = (subst (λ (m : Most). PlainRun (plain_space_of v.table.task v.limit m) v.journal (config_of v.table)) most is.plain, (a, found));
}

-- a search that ends leaves a legal record
pub legal_record : (v : Turns) → IsSearch v → v.table.most ≡ bounds → IsLegal v.table.task v.limit v.workers (record_of v)
legal_record v is most = record {
  task_is = refl;
  limit_is = refl;
  run = subst (λ (m : Most). Run (space_of v.table.task v.limit v.workers m) v.journal (config_of v.table)) most is.run;
}
