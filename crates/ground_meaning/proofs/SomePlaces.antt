-- Valid task data has least places, and these suffice or there is a first reason why they don't.
use Rattle.std.proofs.Common.{◌≡◌, ◌<◌, ◌≤◌, ◌⊎◌, ◌^◌, ℕ, ℤ, zero, suc, Bool, true, false, List, [], ◌∷◌, map, All, length, slice_get, slice_index_or, Some, refl, sym, subst, ◌∙◌, inl, inr, arith}
use Rattle.std.specs.Prelude.{IsTrue, unsigned_abs}
use Rattle.std.proofs.lemmas.Bool.{cases_Bool, cases_lt}
use Rattle.std.proofs.lemmas.List.Elements.{All-cons, All-nil}
use Rattle.pddl_types.specs.WellFormed.{Each, Stands}
use Rattle.ground_task.specs.declared.raw.Change.{Change}
use Rattle.ground_task.specs.declared.raw.Ground.{Ground}
use Rattle.ground_task.specs.declared.raw.RawTask.{RawTask}
use Rattle.ground_task.specs.Placed.{IsPlaced, has_few_places}
use Rattle.ground_task.specs.Tasks.{AreFirstInRange, first_number}
use Rattle.ground_task.specs.Valid.{IsValid, IsValidAction, right_side}
use Rattle.places.specs.declared.faults.PlacesFault.{PlacesFault}
use Rattle.places.specs.declared.faults.PlacesFault.TheVariants as places_fault
use Rattle.places.specs.Inside.{first_count, is_short, needed, raised, room_of, AreMet, IsRise, IsUnderLeast}
use Rattle.places.specs.Least.{IsEnough, IsLeastPlaces, IsPlacesFault}
use Rattle.places.proofs.Rises.{least_at_last, not_short, one_step, under_at_first}
use Rattle.places.proofs.Suited.{action_fault, fluent_fault, goal_fault, range_fault, suited}
use Rattle.ground_meaning.proofs.BoundAtoms.{all_at}

-- ---- counts that rise to the least ones

-- an effect that is short of places
record IsShort (counts : List ℕ) (effects : List (ℕ × Change)) : Type 0 where
  effect : ℕ × Change
  there : Stands effect effects
  short : is_short counts effect.0 (right_side effect.1) ≡ true

met_or_short : (counts : List ℕ) (effects : List (ℕ × Change)) → AreMet counts effects ⊎ IsShort counts effects
met_or_short counts [] = inl (All-nil (λ (g : ℕ × Change). needed counts (right_side g.1) ≤ slice_index_or counts g.0 0))
met_or_short counts (e ∷ es) =
    elim (cases_Bool (is_short counts e.0 (right_side e.1))) [
      | inl short ↦ inr (record { effect = e; there = inl refl; short = short })
      | inr enough ↦ elim (met_or_short counts es) [
        | inl met ↦ inl (All-cons (λ (g : ℕ × Change). needed counts (right_side g.1) ≤ slice_index_or counts g.0 0) e es (not_short counts e.0 (right_side e.1) enough) met)
        | inr later ↦ inr (record { effect = later.effect; there = inr later.there; short = later.short })
      ]
    ]

record IsShortAction (counts : List ℕ) (actions : List Ground) : Type 0 where
  action : Ground
  here : Stands action actions
  shortage : IsShort counts action.nums

all_met_or_short : (counts : List ℕ) (actions : List Ground) → Each (λ a. AreMet counts a.nums) actions ⊎ IsShortAction counts actions
all_met_or_short counts [] = inl tt
all_met_or_short counts (a ∷ actions) =
    elim (met_or_short counts a.nums) [
      | inr short ↦ inr (record { action = a; here = inl refl; shortage = short })
      | inl met ↦ elim (all_met_or_short counts actions) [
        | inl more ↦ inl (met, more)
        | inr later ↦ inr (record { action = later.action; here = inr later.here; shortage = later.shortage })
      ]
    ]

each_got : {A : Type 0} (P : A → Type 0) (xs : List A) → Each P xs → (n : ℕ) (x : A) → slice_get xs n ≡ Some x → P x
each_got P [] h n x at = cc
each_got P (y ∷ ys) h zero x at = let same : y ≡ x = cc in subst P same h.0
each_got P (y ∷ ys) h (suc n) x at = each_got P ys h.1 n x at

module _ (raw : RawTask) (valid : IsValid raw) where
  under_next : (old new : List ℕ) (rose : Bool) → IsUnderLeast raw old → IsRise raw old new rose → IsUnderLeast raw new
  under_next old new rose under rise = record {
    a_count_each = rise.as_many ∙ under.a_count_each;
    cut = rise.cut under.cut;
    values = λ x known. omega (arith, under.values x known, rise.higher x);
    least = λ others enough. rise.least others enough (under.least others enough);
  }

  rise_here : (counts : List ℕ) → IsUnderLeast raw counts → (q : IsShortAction counts raw.actions)
      → IsRise raw counts (raised counts q.shortage.effect.0 (right_side q.shortage.effect.1)) true
  rise_here counts under q =
      let e = q.shortage.effect in
      let known = all_at (λ (g : ℕ × Change). g.0 < length raw.fluents) q.action.nums e (all_at (IsValidAction (length raw.facts) (length raw.fluents)) raw.actions q.action valid.valid_actions q.here).known_fluents q.shortage.there in
      let asked = λ (others : List ℕ) (enough : IsEnough raw others).
      all_at (λ (g : ℕ × Change). needed others (right_side g.1) ≤ slice_index_or others g.0 0) q.action.nums e (all_at (λ (a : Ground). AreMet others a.nums) raw.actions q.action enough.changes q.here) q.shortage.there in
      subst (λ (t : Bool). IsRise raw counts (raised counts e.0 (right_side e.1)) t) q.shortage.short
      (one_step raw counts e.0 (right_side e.1) (omega (arith, known, under.a_count_each)) asked)

  all_met : (counts : List ℕ) → IsUnderLeast raw counts → Each (λ a. AreMet counts a.nums) raw.actions → (least : List ℕ) × IsLeastPlaces raw least
  all_met counts under met = (counts, least_at_last raw counts under (λ number a at. each_got (λ (b : Ground). AreMet counts b.nums) raw.actions met number a at))

  climb : (room : ℕ) (counts : List ℕ) → room_of counts ≤ room → IsUnderLeast raw counts → (least : List ℕ) × IsLeastPlaces raw least
  climb zero counts fits under =
      elim (all_met_or_short counts raw.actions) [
        | inl met ↦ all_met counts under met
        | inr q ↦ let less = (rise_here counts under q).falls refl in absurd (omega (arith, less, fits))
      ]
  climb (suc room) counts fits under =
      elim (all_met_or_short counts raw.actions) [
        | inl met ↦ all_met counts under met
        | inr q ↦ let rise = rise_here counts under q in
            let less = rise.falls refl in
            climb room (raised counts q.shortage.effect.0 (right_side q.shortage.effect.1)) (omega (arith, less, fits)) (under_next counts _ true under rise)
      ]

  pub least_exist : (least : List ℕ) × IsLeastPlaces raw least
  least_exist =
      let first = map_first raw in
      climb (room_of first) first (omega arith) (under_at_first raw first valid refl)
    where
      map_first : RawTask → List ℕ
      map_first r = map first_count r.values

  -- ---- whether they suffice

  -- all counts are at most 9, or one is the first that isn't
  few_or_deep : (xs : List ℕ) → All (λ c. c ≤ 9) xs ⊎ ((x : ℕ) × (x < length xs) × (9 < slice_index_or xs x 0) × ((y : ℕ) → y < x → slice_index_or xs y 0 ≤ 9))
  few_or_deep [] = inl (All-nil (λ (n : ℕ). n ≤ 9))
  few_or_deep (c ∷ cs) =
      elim (cases_lt 9 c) [
        | inl deep ↦ inr (0, omega arith, deep, λ y less. absurd (omega (arith, less)))
        | inr few ↦ elim (few_or_deep cs) [
          | inl rest ↦ inl (All-cons (λ (n : ℕ). n ≤ 9) c cs few rest)
          | inr later ↦ inr (suc later.0, omega (arith, later.1), later.2, before c cs later.0 few later.3)
        ]
      ]
    where
      before : (d : ℕ) (ds : List ℕ) (x : ℕ) → d ≤ 9 → ((y : ℕ) → y < x → slice_index_or ds y 0 ≤ 9) → (y : ℕ) → y < suc x → slice_index_or (d ∷ ds) y 0 ≤ 9
      before d ds x small rest zero less = small
      before d ds x small rest (suc y) less = rest y (omega (arith, less))

  few_or_deep_action : (counts : List ℕ) (actions : List Ground) → All (λ a. IsTrue (has_few_places counts a.pre)) actions
      ⊎ ((number : ℕ) × (a : Ground) × (slice_get actions number ≡ Some a) × (has_few_places counts a.pre ≡ false)
      × ((earlier : ℕ) (other : Ground) → earlier < number → slice_get actions earlier ≡ Some other → IsTrue (has_few_places counts other.pre)))
  few_or_deep_action counts [] = inl (All-nil (λ (b : Ground). IsTrue (has_few_places counts b.pre)))
  few_or_deep_action counts (a ∷ actions) =
      elim (cases_Bool (has_few_places counts a.pre)) [
        | inr deep ↦ inr (0, a, refl, deep, λ earlier other less at. absurd (omega (arith, less)))
        | inl few ↦ elim (few_or_deep_action counts actions) [
          | inl rest ↦ inl (All-cons (λ (b : Ground). IsTrue (has_few_places counts b.pre)) a actions few rest)
          | inr later ↦ inr (suc later.0, later.1, later.2, later.3, before a actions later.0 few later.4)
        ]
      ]
    where
      before : (b : Ground) (bs : List Ground) (n : ℕ) → IsTrue (has_few_places counts b.pre)
          → ((earlier : ℕ) (other : Ground) → earlier < n → slice_get bs earlier ≡ Some other → IsTrue (has_few_places counts other.pre))
          → (earlier : ℕ) (other : Ground) → earlier < suc n → slice_get (b ∷ bs) earlier ≡ Some other → IsTrue (has_few_places counts other.pre)
      before b bs n few rest zero other less at = let same : b ≡ other = cc in subst (λ (c : Ground). IsTrue (has_few_places counts c.pre)) same few
      before b bs n few rest (suc earlier) other less at = rest earlier other (omega (arith, less)) at

  -- each number below a count is small, or one is the first that isn't
  in_range_or_first : (f : ℕ → ℤ) (most count : ℕ) → ((x : ℕ) → x < count → unsigned_abs (f x) < most)
      ⊎ ((x : ℕ) × (x < count) × (unsigned_abs (f x) < most → ⊥) × ((y : ℕ) → y < x → unsigned_abs (f y) < most))
  in_range_or_first f most zero = inl (λ x less. absurd (omega (arith, less)))
  in_range_or_first f most (suc count) =
      elim (in_range_or_first f most count) [
        | inr found ↦ inr (found.0, omega (arith, found.1), found.2, found.3)
        | inl all ↦ elim (cases_lt (unsigned_abs (f count)) most) [
          | inl fits ↦ inl (λ x less. elim (cases_lt x count) [
            | inl below ↦ all x below
            | inr most_x ↦ let same : count ≡ x = omega (arith, less, most_x) in subst (λ (n : ℕ). unsigned_abs (f n) < most) same fits
          ])
          | inr leaves ↦ inr (count, omega arith, (λ fits. absurd (omega (arith, fits, leaves))), all)
        ]
      ]

  abbrev pub Suffice : List ℕ → Type 0
  Suffice counts = IsPlaced raw counts × AreFirstInRange counts raw.values (length raw.fluents)

  abbrev Fault : Type 0
  Fault = (g : PlacesFault) × IsPlacesFault raw g × (g ≡ places_fault.NoMemory → ⊥)

  of_range : (counts : List ℕ) → IsLeastPlaces raw counts → IsPlaced raw counts → Suffice counts ⊎ Fault
  of_range counts least placed =
      elim (in_range_or_first (first_number counts raw.values) (2 ^ 127) (length raw.fluents)) [
        | inl all ↦ inl (placed, all)
        | inr found ↦ inr (places_fault.Range found.0, range_fault raw counts least found.0 placed (found.1, found.2, found.3), λ e. cc)
      ]

  of_goal : (counts : List ℕ) → IsLeastPlaces raw counts → All (λ c. c ≤ 9) counts → All (λ a. IsTrue (has_few_places counts a.pre)) raw.actions → Suffice counts ⊎ Fault
  of_goal counts least few actions =
      elim (cases_Bool (has_few_places counts raw.goal)) [
        | inl fits ↦ of_range counts least (suited raw counts least valid few actions (sym fits))
        | inr deep ↦ inr (places_fault.Goal, goal_fault raw counts least few actions (sym deep), λ e. cc)
      ]

  -- least places suffice, or there is a first reason why they don't
  pub suffice_or_fault : (counts : List ℕ) → IsLeastPlaces raw counts → Suffice counts ⊎ Fault
  suffice_or_fault counts least =
      elim (few_or_deep counts) [
        | inr deep ↦ inr (places_fault.Fluent deep.0, fluent_fault raw counts least deep.0 deep.1 deep.2 deep.3, λ e. cc)
        | inl few ↦ elim (few_or_deep_action counts raw.actions) [
          | inl actions ↦ of_goal counts least few actions
          | inr deep ↦ inr (places_fault.Action deep.0, action_fault raw counts least deep.0 few (record { action = deep.1; is = deep.2; deep = deep.3; first = deep.4 }), λ e. cc)
        ]
      ]
