-- The values that changes give, within the range, and how they are written one after another.
use Rattle.std.proofs.Common.{◌≡◌, ◌≢◌, ◌&&◌, ◌≤◌, ◌<◌, ◌+◌, ◌==◌, max, ℕ, suc, ℤ, pos, Bool, true, false, List, [], ◌∷◌, ◌++◌, drop, Option, Some, None, All, AllPairs, length, take, set, get_or, slice_index_or, refl, sym, ap, ◌∙◌, arith, inl, inr, eqb-true, eq-eqb, if◌then◌else◌}
use Rattle.std.specs.Prelude.{IfSome}
use Rattle.std.specs.List.{list_all}
use Rattle.std.proofs.Math.Seq.{take-suc}
use Rattle.std.proofs.lemmas.Bool.{cases_Bool, cases_eq}
use Rattle.std.proofs.lemmas.List.{get_or-set_same, get_or-set_other, get_or-take, get_or_read, length-take, drop_more}
use Rattle.std.proofs.lemmas.List.Elements.{All-head, All-tail}
use Rattle.num_ends.specs.Decimal.{Decimal, InRange, aligned, number_at, sum_of}
use Rattle.num_ends.specs.Range.{in_range, operands_fit, where_fits}
use Rattle.num_ends.proofs.DecimalOrder.{no_place_more}
use Rattle.ground_task.specs.declared.raw.Change.{Change}
use Rattle.ground_task.specs.declared.raw.Change.TheVariants.{Add, Set}
use Rattle.ground_task.specs.declared.raw.GExpr.{GExpr}
use Rattle.ground_task.specs.Inside.{IsEffectOf, IsNewValue}
use Rattle.ground_task.specs.Meaning.{fluent_value, value_of}
use Rattle.ground_task.specs.Ranged.{is_change_in_bounds, ranged_sum, ranged_value}
use Rattle.ground_task.specs.States.{StateValue}
use Rattle.ground_task.specs.Steps.{change_of, changed_value}
use Rattle.ground_task.specs.Tasks.{TaskValue}
use Rattle.ground_task.proofs.Bounded.{bounded_places, value_bounded}
use Rattle.ground_task.proofs.Ranges.{not_true, range_test, range_tested}

fitted : (fits : Bool) (d x : Decimal) → Some d ≡ where_fits fits x → (fits ≡ true) × (d ≡ x)
fitted true d x e = (refl, cc)
fitted false d x e = cc

unfitted : (fits : Bool) (x : Decimal) → None ≡ where_fits fits x → fits ≡ false
unfitted true x e = cc
unfitted false x e = refl

-- ---- new values

module _ (t : TaskValue) (s : StateValue) (x : ℕ) (e : GExpr) where
  abbrev places : List ℕ
  places = t.places

  abbrev q : ℕ
  q = slice_index_or t.places x 0

  pub added_given : (v d : Decimal) → IsEffectOf t x (Add e) → Some v ≡ ranged_value t.places s e → Some d ≡ ranged_sum (fluent_value t.places s x) v → IsNewValue t.places s x (Add e) d
  added_given v d effect value sum =
      let f : Decimal = fluent_value t.places s x in
      let parts = fitted (operands_fit f v && in_range (sum_of f v).n) d (sum_of f v) sum in
      let exact : value_of t.places s e ≡ v = value_bounded t.places s e v (sym value) in
      let whole : d ≡ sum_of f (value_of t.places s e) = parts.1 ∙ ap (sum_of f) (sym exact) in
      let few : v.p ≤ q = omega (arith, bounded_places t.places s e v (sym value), effect.places) in
      let at : d.p ≡ q = ap (λ (y : Decimal). y.p) parts.1 ∙ larger v.p few in
      record {
        number = sym (no_place_more q d at) ∙ ap (number_at q) whole;
        fits = rw (← value) parts.0;
      }
    where
      larger : (p : ℕ) → p ≤ q → max q p ≡ q
      larger p few = omega (arith, few)

  pub added_where_given : (v : Decimal) (sum : Option Decimal) → IsEffectOf t x (Add e) → Some v ≡ ranged_value t.places s e → sum ≡ ranged_sum (fluent_value t.places s x) v → IfSome sum (IsNewValue t.places s x (Add e))
  added_where_given v None effect value is = tt
  added_where_given v (Some d) effect value is = added_given v d effect value is

  pub added_over : None ≡ ranged_value t.places s e → is_change_in_bounds t.places s x (Add e) ≡ false
  added_over none = rw (← none) refl

  pub added_refused : (v : Decimal) → Some v ≡ ranged_value t.places s e → None ≡ ranged_sum (fluent_value t.places s x) v → is_change_in_bounds t.places s x (Add e) ≡ false
  added_refused v value none =
      let f : Decimal = fluent_value t.places s x in
      rw (← value) (unfitted (operands_fit f v && in_range (sum_of f v).n) (sum_of f v) none)

  -- the places to which the value is brought
  pub assigned_places : (v : Decimal) → IsEffectOf t x (Set e) → Some v ≡ ranged_value t.places s e → v.p ≤ slice_index_or t.places x 0
  assigned_places v effect value = omega (arith, bounded_places t.places s e v (sym value), effect.places)

  pub assigned_given : (v d : Decimal) → Some v ≡ ranged_value t.places s e → d ≡ aligned q v → InRange (number_at q v) → IsNewValue t.places s x (Set e) d
  assigned_given v d value is fits =
      let exact : value_of t.places s e ≡ v = value_bounded t.places s e v (sym value) in
      record {
        number = ap (λ (y : Decimal). y.n) is ∙ ap (number_at q) (sym exact);
        fits = rw (← value) (range_test (number_at q v) fits);
      }

  pub assigned_over : None ≡ ranged_value t.places s e → is_change_in_bounds t.places s x (Set e) ≡ false
  assigned_over none = rw (← none) refl

  pub assigned_refused : (v : Decimal) → Some v ≡ ranged_value t.places s e → (InRange (number_at q v) → ⊥) → is_change_in_bounds t.places s x (Set e) ≡ false
  assigned_refused v value over =
      rw (← value) (not_true (in_range (number_at q v)) (λ h. over (range_tested (number_at q v) h)))

-- ---- values written one after another

abbrev or_else : Option Change → Option Change → Option Change
or_else None y = y
or_else (Some c) y = Some c

-- a further change counts where none of the fluent came before
change_of_more : (x : ℕ) (effects : List (ℕ × Change)) (effect : ℕ × Change) → change_of x (effects ++ effect ∷ []) ≡ or_else (change_of x effects) (if effect.0 == x then Some effect.1 else None)
change_of_more x [] effect = refl
change_of_more x (first ∷ effects) effect =
    elim (cases_Bool (first.0 == x)) [
      | inl same ↦ rw same refl
      | inr other ↦ rw other (change_of_more x effects effect)
    ]

absent : (x : ℕ) (effects : List (ℕ × Change)) → All (λ e. e.0 ≢ x) effects → change_of x effects ≡ None
absent x [] none = refl
absent x (first ∷ effects) none =
    elim (cases_Bool (first.0 == x)) [
      | inl same ↦ absurd (All-head (λ (e : ℕ × Change). e.0 ≢ x) first effects none (eqb-true first.0 x same))
      | inr other ↦ rw other (absent x effects (All-tail (λ (e : ℕ × Change). e.0 ≢ x) first effects none))
    ]

module _ (places : List ℕ) (s : StateValue) (effects : List (ℕ × Change)) (i : ℕ) (effect : ℕ × Change) (within : i < length effects) (is : effect ≡ get_or effects i effect) (apart : AllPairs (λ one other. one.0 ≢ other.0) effects) where
  -- none of the changes before one is of its fluent
  none_before : change_of effect.0 (take i effects) ≡ None
  none_before =
      absent effect.0 (take i effects)
      (λ k d below.
      let earlier : k < i = omega (arith, below, length-take i effects) in
      let here : effect ≡ get_or effects i d = get_or_read effects i effect within is d in
      rw (here, get_or-take i effects k d earlier) (apart k i d earlier within))

  more : take (i + 1) effects ≡ take i effects ++ effect ∷ []
  more = ap (λ (k : ℕ). take k effects) next ∙ take-suc effects i effect within ∙ ap (λ (e : ℕ × Change). take i effects ++ e ∷ []) (sym is)
    where
      next : i + 1 ≡ suc i
      next = omega arith

  this_change : change_of effect.0 (take (i + 1) effects) ≡ Some effect.1
  this_change =
      ap (change_of effect.0) more ∙ change_of_more effect.0 (take i effects) effect
      ∙ rw (none_before, eq-eqb effect.0 effect.0 refl) refl

  other_change : (x : ℕ) → x ≢ effect.0 → change_of x (take (i + 1) effects) ≡ change_of x (take i effects)
  other_change x other =
      ap (change_of x) more ∙ change_of_more x (take i effects) effect
      ∙ rw (not_true (effect.0 == x) (λ h. other (sym (eqb-true effect.0 x h)))) (or_none (change_of x (take i effects)))
    where
      or_none : (c : Option Change) → or_else c None ≡ c
      or_none None = refl
      or_none (Some c) = refl

  -- the number of a fluent after the changes before this one, and after this one too
  abbrev number_after : ℕ → ℕ → ℤ
  number_after k x = number_at (slice_index_or places x 0) (changed_value places s x (change_of x (take k effects)))

  pub written : (d : Decimal) (values new : List ℤ) → IsNewValue places s effect.0 effect.1 d → effect.0 < length values → new ≡ set values effect.0 d.n → ((x : ℕ) → x < length s.values → get_or values x (pos 0) ≡ number_after i x) → (x : ℕ) → x < length s.values → get_or new x (pos 0) ≡ number_after (i + 1) x
  written d values new value known is_set before x below =
      elim (cases_eq x effect.0) [
        | inl same ↦
            rw same (ap (λ (ns : List ℤ). get_or ns effect.0 (pos 0)) is_set ∙ get_or-set_same values effect.0 d.n (pos 0) known
            ∙ value.number
            ∙ ap (λ (c : Option Change). number_at (slice_index_or places effect.0 0) (changed_value places s effect.0 c)) (sym this_change))
        | inr other ↦
            ap (λ (ns : List ℤ). get_or ns x (pos 0)) is_set ∙ get_or-set_other values effect.0 x d.n (pos 0) other
            ∙ before x below
            ∙ ap (λ (c : Option Change). number_at (slice_index_or places x 0) (changed_value places s x c)) (sym (other_change x other))
      ]

-- before the first change each fluent has the number of its value
pub unchanged : (places : List ℕ) (s : StateValue) (x : ℕ) → get_or s.values x (pos 0) ≡ number_at (slice_index_or places x 0) (fluent_value places s x)
unchanged places s x = sym (no_place_more (slice_index_or places x 0) (fluent_value places s x) refl)

-- where an item passes a test, all from it on do where all after it do
pub all_after : {X : Type 0} (test : X → Bool) (xs : List X) (i : ℕ) (x : X) → i < length xs → x ≡ get_or xs i x → test x ≡ true → list_all test (drop i xs) ≡ list_all test (drop (i + 1) xs)
all_after test xs i x within is passes =
    ap (list_all test) (drop_more xs i x within ∙ ap (λ y. y ∷ drop (i + 1) xs) (sym is)) ∙ ap (λ b. b && list_all test (drop (i + 1) xs)) passes
