-- What an action's guard and effects give of its step, and what a step that isn't over gives of the step without bounds.
use Rattle.std.proofs.Common.{◌≡◌, ◌&&◌, ◌||◌, ◌<◌, ◌≤◌, ℕ, ℤ, pos, if◌then◌else◌, Bool, true, false, not, List, Some, All, length, slice_get, slice_index_or, refl, sym, ap, ap₂, ◌∙◌, subst, arith}
use Rattle.std.specs.Prelude.{IfOk, Result, Ok, Err}
use Rattle.std.proofs.lemmas.List.FromFn.{fill_by_all, length-map-range_with_len}
use Rattle.num_ends.specs.Decimal.{number_at}
use Rattle.ground_task.specs.declared.answers.Advanced.{Advanced}
use Rattle.ground_task.specs.declared.answers.Advanced.TheVariants as advance
use Rattle.ground_task.specs.declared.answers.Applied.{Applied}
use Rattle.ground_task.specs.declared.answers.Applied.TheVariants as step
use Rattle.ground_task.specs.declared.raw.Change.{Change}
use Rattle.ground_task.specs.declared.raw.Ground.{Ground}
use Rattle.ground_task.specs.Inside.{effects_step, guard_of, AreEffectsOf}
use Rattle.ground_task.specs.Meaning.{fact_value, holds}
use Rattle.ground_task.specs.Placed.{IsPlacedAction}
use Rattle.ground_task.specs.Ranged.{are_effects_in_bounds, is_in_bounds, literals_true, ranged_action, ranged_step}
use Rattle.ground_task.specs.States.{StateValue}
use Rattle.ground_task.specs.Steps.{change_of, changed_fact, changed_value, next_number, next_state}
use Rattle.ground_task.specs.Tasks.{is_listed, IsStateOf, TaskValue}
use Rattle.ground_task.specs.Valid.{IsValidAction}

-- ---- the answers of an action

module _ (places : List ℕ) (s : StateValue) (a : Ground) where
  abbrev by_guard : (literals fits truth effects : Bool) → Applied → Applied
  by_guard literals fits truth effects next =
      if not literals then step.Blocked
      else (if not fits then step.Over
      else (if not truth then step.Blocked
      else (if not effects then step.Over
      else next)))

  abbrev guard_by : (literals fits truth : Bool) → Advanced
  guard_by literals fits truth =
      if not literals then advance.Blocked
      else (if not fits then advance.Over
      else (if not truth then advance.Blocked
      else advance.Next))

  blocked_by : (l f t e : Bool) (next : Applied) → advance.Blocked ≡ guard_by l f t → by_guard l f t e next ≡ step.Blocked
  blocked_by false f t e next h = refl
  blocked_by true false t e next h = cc
  blocked_by true true false e next h = refl
  blocked_by true true true e next h = cc

  over_by : (l f t e : Bool) (next : Applied) → advance.Over ≡ guard_by l f t → by_guard l f t e next ≡ step.Over
  over_by false f t e next h = cc
  over_by true false t e next h = refl
  over_by true true false e next h = cc
  over_by true true true e next h = cc

  next_by : (l f t e : Bool) (next : Applied) → advance.Next ≡ guard_by l f t → by_guard l f t e next ≡ (if not e then step.Over else next)
  next_by false f t e next h = cc
  next_by true false t e next h = cc
  next_by true true false e next h = cc
  next_by true true true e next h = refl

  pub action_blocked : advance.Blocked ≡ guard_of places s a.pre → ranged_action places s a ≡ step.Blocked
  unfolding ranged_action
  action_blocked h = blocked_by (literals_true s a.pre) (is_in_bounds places s a.pre) (holds places s a.pre) (are_effects_in_bounds places s a.nums) (step.Next (next_state places s a)) h

  pub action_over : advance.Over ≡ guard_of places s a.pre → ranged_action places s a ≡ step.Over
  unfolding ranged_action
  action_over h = over_by (literals_true s a.pre) (is_in_bounds places s a.pre) (holds places s a.pre) (are_effects_in_bounds places s a.nums) (step.Next (next_state places s a)) h

  pub action_goes_on : advance.Next ≡ guard_of places s a.pre → ranged_action places s a ≡ (if not (are_effects_in_bounds places s a.nums) then step.Over else step.Next (next_state places s a))
  unfolding ranged_action
  action_goes_on h = next_by (literals_true s a.pre) (is_in_bounds places s a.pre) (holds places s a.pre) (are_effects_in_bounds places s a.nums) (step.Next (next_state places s a)) h

  pub action_next : advance.Next ≡ guard_of places s a.pre → true ≡ are_effects_in_bounds places s a.nums → ranged_action places s a ≡ step.Next (next_state places s a)
  action_next h fits = action_goes_on h ∙ rw (← fits) refl

  pub effects_over : advance.Next ≡ guard_of places s a.pre → false ≡ are_effects_in_bounds places s a.nums → ranged_action places s a ≡ step.Over
  effects_over h over = action_goes_on h ∙ rw (← over) refl

-- the step of an action of a task
pub step_of_action : (t : TaskValue) (s : StateValue) (number : ℕ) (a : Ground) (answer : Applied) → slice_get t.raw.actions number ≡ Some a → ranged_action t.places s a ≡ answer → ranged_step t s number ≡ answer
step_of_action t s number a answer at is = rw at is

same_next : (a b : StateValue) → step.Next a ≡ step.Next b → a ≡ b
same_next a b e = cc

-- no other state is next
module _ (t : TaskValue) (s : StateValue) (number : ℕ) where
  pub no_next_blocked : (next : StateValue) → ranged_step t s number ≡ step.Blocked → (u : StateValue) → ranged_step t s number ≡ step.Next u → next ≡ u
  no_next_blocked next is u e = let bad : step.Blocked ≡ step.Next u = sym is ∙ e in cc

  pub no_next_over : (next : StateValue) → ranged_step t s number ≡ step.Over → (u : StateValue) → ranged_step t s number ≡ step.Next u → next ≡ u
  no_next_over next is u e = let bad : step.Over ≡ step.Next u = sym is ∙ e in cc

  pub next_is : (next made : StateValue) → ranged_step t s number ≡ step.Next made → next ≡ made → (u : StateValue) → ranged_step t s number ≡ step.Next u → next ≡ u
  next_is next made is here u e = here ∙ same_next made u (sym is ∙ e)

-- ---- the next state

pub made_of_parts : (places : List ℕ) (s next : StateValue) (a : Ground) → length next.facts ≡ length s.facts → length next.values ≡ length s.values → ((f : ℕ) → f < length s.facts → fact_value next f ≡ changed_fact s a f) → ((x : ℕ) → x < length s.values → slice_index_or next.values x (pos 0) ≡ next_number places s a x) → next ≡ next_state places s a
made_of_parts places s next a many_facts many_values facts values =
    ap₂ (λ (bits : List Bool) (numbers : List ℤ). record { facts = bits; values = numbers })
    (fill_by_all (changed_fact s a) next.facts (length s.facts) false many_facts facts)
    (fill_by_all (next_number places s a) next.values (length s.values) (pos 0) many_values values)

-- facts are deleted, then added, and then values are written
pub effects_written : (places : List ℕ) (s start deleted added next : StateValue) (a : Ground) (dels adds : List ℕ) (nums : List (ℕ × Change)) → dels ≡ a.dels → adds ≡ a.adds → nums ≡ a.nums → start ≡ s
    → length deleted.facts ≡ length start.facts → ((f : ℕ) → f < length start.facts → fact_value deleted f ≡ (fact_value start f && not (is_listed dels f)))
    → length added.facts ≡ length deleted.facts → ((f : ℕ) → f < length deleted.facts → fact_value added f ≡ (is_listed adds f || fact_value deleted f))
    → next.facts ≡ added.facts → length next.values ≡ length s.values
    → ((x : ℕ) → x < length s.values → slice_index_or next.values x (pos 0) ≡ number_at (slice_index_or places x 0) (changed_value places s x (change_of x nums)))
    → next ≡ next_state places s a
effects_written places s start deleted added next a dels adds nums is_dels is_adds is_nums same many_deleted facts_deleted many_added facts_added kept many_values values =
    let many : length deleted.facts ≡ length s.facts = many_deleted ∙ ap (λ (u : StateValue). length u.facts) same in
    made_of_parts places s next a (ap length kept ∙ many_added ∙ many) many_values
    (λ f below.
    let in_deleted : f < length deleted.facts = omega (arith, below, many) in
    let in_start : f < length start.facts = omega (arith, below, many, many_deleted) in
    ap (λ (bits : List Bool). slice_index_or bits f false) kept
    ∙ facts_added f in_deleted
    ∙ ap₂ (λ (ns : List ℕ) (b : Bool). is_listed ns f || b) is_adds (facts_deleted f in_start ∙ ap₂ (λ (u : StateValue) (ns : List ℕ). fact_value u f && not (is_listed ns f)) same is_dels))
    (λ x below. values x below ∙ ap (λ (ns : List (ℕ × Change)). number_at (slice_index_or places x 0) (changed_value places s x (change_of x ns))) is_nums)

-- ---- the effects of an action

pub effects_of_action : (t : TaskValue) (a : Ground) → IsValidAction (length t.raw.facts) (length t.raw.fluents) a → IsPlacedAction t.places a → All (λ p. p ≤ 9) t.places → length t.places ≡ length t.raw.fluents → AreEffectsOf t a.nums
effects_of_action t a valid placed few count =
    record {
      each = λ k d below.
          let known = valid.known_fluents k d below in
          record {
            known = known;
            evaluable = record {
              known = valid.known_right_sides k d below;
              few = omega (arith, placed.changes_fit k d below, few (slice_index_or a.nums k d).0 0 (omega (arith, known, count)));
            };
            places = placed.changes_fit k d below;
          };
      one_each = valid.one_change_each;
    }

-- ---- the next state is one of the task

-- what holds of a result holds of it in other words
pub mapped_ok : {A E : Type 0} {P Q : A → Type 0} → (r : Result A E) → ((a : A) → P a → Q a) → IfOk r P → IfOk r Q
mapped_ok (Ok a) f p = f a p
mapped_ok (Err e) f p = tt

next_in : (b : Bool) (made u : StateValue) → (if not b then step.Over else step.Next made) ≡ step.Next u → made ≡ u
next_in true made u e = same_next made u e
next_in false made u e = cc

pub next_of_task : (t : TaskValue) (s : StateValue) (a : Ground) → IsStateOf t s → (x : Applied) → x ≡ effects_step t.places s a → (u : StateValue) → x ≡ step.Next u → IsStateOf t u
next_of_task t s a of_task x is u next =
    subst (IsStateOf t) (next_in (are_effects_in_bounds t.places s a.nums) (next_state t.places s a) u (sym is ∙ next))
    (record {
      a_truth_each = length-map-range_with_len (changed_fact s a) 0 (length s.facts) ∙ of_task.a_truth_each;
      a_number_each = length-map-range_with_len (next_number t.places s a) 0 (length s.values) ∙ of_task.a_number_each;
    })
