-- The reasons why least counts don't suffice, and that else they do.
use Rattle.std.proofs.Common.{◌≡◌, ◌≤◌, ◌<◌, ◌+◌, ℕ, true, false, List, All, Some, length, get_or, slice_get, slice_index_or, inl, inr, refl, sym, ap, subst, ◌∙◌, arith}
use Rattle.std.proofs.lemmas.Bool.{cases_lt}
use Rattle.std.proofs.lemmas.Option.{same_Some, slice_get_read}
use Rattle.std.specs.Prelude.{IsTrue}
use Rattle.ground_task.specs.declared.faults.TaskFault.TheVariants as task_fault
use Rattle.ground_task.specs.declared.raw.Ground.{Ground}
use Rattle.ground_task.specs.declared.raw.RawTask.{RawTask}
use Rattle.ground_task.specs.Placed.{has_few_places, IsPlaced}
use Rattle.ground_task.specs.Tasks.{IsCause}
use Rattle.ground_task.specs.Valid.{IsValid}
use Rattle.places.specs.declared.faults.PlacesFault.TheVariants as places_fault
use Rattle.places.specs.Inside.{IsFirstDeepAction}
use Rattle.places.specs.Least.{IsLeastPlaces, IsPlacesFault}

module _ (raw : RawTask) (counts : List ℕ) (least : IsLeastPlaces raw counts) where
  pub fluent_fault : (x : ℕ) → x < length counts → 9 < slice_index_or counts x 0 → ((y : ℕ) → y < x → slice_index_or counts y 0 ≤ 9) → IsPlacesFault raw (places_fault.Fluent x)
  fluent_fault x known deep first =
      (counts, least, record { known = omega (arith, known, least.enough.a_count_each); deep = deep; first = first })

  pub action_fault : (number : ℕ) → All (λ p. p ≤ 9) counts → IsFirstDeepAction raw counts number → IsPlacesFault raw (places_fault.Action number)
  action_fault number few deep =
      (counts, least, record { few = few; action = deep.action; is = deep.is; deep = deep.deep; first = deep.first })

  pub goal_fault : All (λ p. p ≤ 9) counts → All (λ a. IsTrue (has_few_places counts a.pre)) raw.actions → false ≡ has_few_places counts raw.goal → IsPlacesFault raw places_fault.Goal
  goal_fault few actions deep = (counts, least, record { few = few; actions = actions; deep = sym deep })

  pub suited : IsValid raw → All (λ p. p ≤ 9) counts → All (λ a. IsTrue (has_few_places counts a.pre)) raw.actions → true ≡ has_few_places counts raw.goal → IsPlaced raw counts
  suited valid few actions goal =
      record {
        a_count_each = least.enough.a_count_each;
        few = few;
        values_fit = λ x known. omega (arith, least.enough.values x known, few x 0 (omega (arith, known, least.enough.a_count_each)));
        placed_actions = λ k d below. record {
          few_in_condition = actions k d below;
          changes_fit = λ i e within.
              let target : (slice_index_or (slice_index_or raw.actions k d).nums i e).0 < length counts = omega (arith, (valid.valid_actions k d below).known_fluents i e within, least.enough.a_count_each) in
              omega (arith, least.enough.changes k d below i e within, few (slice_index_or (slice_index_or raw.actions k d).nums i e).0 0 target);
        };
        few_in_goal = sym goal;
      }

  pub range_fault : (x : ℕ) → IsPlaced raw counts → IsCause raw counts (task_fault.Range x) → IsPlacesFault raw (places_fault.Range x)
  range_fault x placed cause = (counts, least, placed, cause)

-- an action that is read
pub read_action : (raw : RawTask) (number : ℕ) (a : Ground) → number < length raw.actions → a ≡ get_or raw.actions number a → slice_get raw.actions number ≡ Some a
read_action raw number a below is = slice_get_read raw.actions (length raw.actions) number a refl below is

-- the conditions of actions have few places, and one more has
pub few_more : (raw : RawTask) (counts : List ℕ) (number : ℕ) (a : Ground) → number < length raw.actions → a ≡ get_or raw.actions number a → ((earlier : ℕ) (b : Ground) → earlier < number → slice_get raw.actions earlier ≡ Some b → IsTrue (has_few_places counts b.pre)) → IsTrue (has_few_places counts a.pre) → (earlier : ℕ) (b : Ground) → earlier < number + 1 → slice_get raw.actions earlier ≡ Some b → IsTrue (has_few_places counts b.pre)
few_more raw counts number a below is before here earlier b within at =
    elim (cases_lt earlier number) [
      | inl sooner ↦ before earlier b sooner at
      | inr later ↦
          let same : earlier ≡ number = omega (arith, later, within) in
          let one : b ≡ a = same_Some b a (sym at ∙ ap (slice_get raw.actions) same ∙ read_action raw number a below is) in
          subst (λ (g : Ground). IsTrue (has_few_places counts g.pre)) (sym one) here
    ]
