-- Boxes in boxes, and lists of parts that are made wider one by one.
use Rattle.std.proofs.Common.{◌≡◌, ℕ, ◌+◌, ◌<◌, ◌≤◌, Bool, true, false, List, length, get_or, set, refl, sym, subst, ◌∙◌, inl, inr, arith, length-set}
use Rattle.std.proofs.lemmas.Bool.{cases_order}
use Rattle.std.proofs.lemmas.List.{get_or-set_same, get_or-set_other}
use Rattle.num_ends.proofs.Members.{has_within, within_refl, within_trans}
use Rattle.num_ends.specs.Ends.{has}
use Rattle.ground_task.specs.Meaning.{fluent_value}
use Rattle.ground_task.specs.States.{StateValue}
use Rattle.box_model.proofs.Monotony.{may_be_wider}
use Rattle.box_model.specs.Boxes.{fact_in, fluent_in, is_may_within, may_be, Contains, LiesWithin}
use Rattle.box_model.specs.declared.state_box.May.{May}
use Rattle.box_model.specs.declared.state_box.May.TheVariants.{True, False, Any}
use Rattle.box_model.specs.declared.state_box.StateBox.{StateBox}
use Rattle.kept_boxes.specs.Hulls.{IsInside}

pub may_refl : (m : May) → is_may_within m m ≡ true
may_refl True = refl
may_refl False = refl
may_refl Any = refl

may_trans : (l m n : May) → is_may_within l m ≡ true → is_may_within m n ≡ true → is_may_within l n ≡ true
may_trans True True n h k = k
may_trans True False n h k = cc
may_trans True Any True h k = cc
may_trans True Any False h k = cc
may_trans True Any Any h k = refl
may_trans False True n h k = cc
may_trans False False n h k = k
may_trans False Any True h k = cc
may_trans False Any False h k = cc
may_trans False Any Any h k = refl
may_trans Any True n h k = cc
may_trans Any False n h k = cc
may_trans Any Any n h k = k

pub box_refl : (b : StateBox) → LiesWithin b b
box_refl b =
    record { as_many_facts = refl; as_many_fluents = refl; facts = λ f h. may_refl (fact_in b f); fluents = λ x h. within_refl (fluent_in b x) }

pub box_trans : (b c d : StateBox) → LiesWithin b c → LiesWithin c d → LiesWithin b d
box_trans b c d h k =
    record {
      as_many_facts = h.as_many_facts ∙ k.as_many_facts;
      as_many_fluents = h.as_many_fluents ∙ k.as_many_fluents;
      facts = λ f l. may_trans (fact_in b f) (fact_in c f) (fact_in d f) (h.facts f l) (k.facts f (subst (λ (n : ℕ). f < n) h.as_many_facts l));
      fluents = λ x l. within_trans (fluent_in b x) (fluent_in c x) (fluent_in d x) (h.fluents x l) (k.fluents x (subst (λ (n : ℕ). x < n) h.as_many_fluents l));
    }

-- what is inside of a hull is inside of a wider one
pub inside_wider : (b was hull : StateBox) → LiesWithin was hull → IsInside b was → IsInside b hull
inside_wider b was hull wider inside shape =
    box_trans b was hull (inside (shape.0 ∙ sym wider.as_many_facts, shape.1 ∙ sym wider.as_many_fluents)) wider

module _ {X : Type 0} (Within : X → X → Bool) (default : X) where
  -- the first i parts are around those that were there and around the others; the rest is as it was
  pub record IsWiderSoFar (i : ℕ) (old others now : List X) : Type 0 where
    pub len : length now ≡ length old
    pub rest : (k : ℕ) → i ≤ k → get_or now k default ≡ get_or old k default
    pub kept : (k : ℕ) → k < i → Within (get_or old k default) (get_or now k default) ≡ true
    pub added : (k : ℕ) → k < i → Within (get_or others k default) (get_or now k default) ≡ true

  pub wider_begun : (old others : List X) → IsWiderSoFar 0 old others old
  wider_begun old others = record { len = refl; rest = λ k h. refl; kept = λ k h. absurd (omega (arith, h)); added = λ k h. absurd (omega (arith, h)) }

  pub wider_step : (i : ℕ) (old others now : List X) (x : X) → IsWiderSoFar i old others now → i < length now → Within (get_or old i default) x ≡ true → Within (get_or others i default) x ≡ true
      → IsWiderSoFar (i + 1) old others (set now i x)
  wider_step i old others now x so_far within first second = record {
    len = length-set now i x ∙ so_far.len;
    rest = λ k h. get_or-set_other now i k x default (λ e. omega (arith, h, e)) ∙ so_far.rest k (omega (arith, h));
    kept = λ k h. by old first so_far.kept k h;
    added = λ k h. by others second so_far.added k h;
  }
    where
      by : (them : List X) → Within (get_or them i default) x ≡ true → ((k : ℕ) → k < i → Within (get_or them k default) (get_or now k default) ≡ true)
          → (k : ℕ) → k < i + 1 → Within (get_or them k default) (get_or (set now i x) k default) ≡ true
      by them here before k h =
          elim (cases_order k i) [
            | inl same ↦ subst (λ (n : ℕ). Within (get_or them n default) (get_or (set now i x) n default) ≡ true) (sym same) (rw (get_or-set_same now i x default within) here)
            | inr (inl less) ↦ rw (get_or-set_other now i k x default (λ e. omega (arith, less, e))) (before k less)
            | inr (inr more) ↦ absurd (omega (arith, h, more))
          ]

  pub wider_all : (itself : (x : X) → Within x x ≡ true) (i : ℕ) (old others now : List X) → IsWiderSoFar i old others now → (k : ℕ) → Within (get_or old k default) (get_or now k default) ≡ true
  wider_all itself i old others now so_far k =
      elim (cases_order k i) [
        | inl same ↦ rw (so_far.rest k (omega (arith, same))) (itself (get_or old k default))
        | inr (inl less) ↦ so_far.kept k less
        | inr (inr more) ↦ rw (so_far.rest k (omega (arith, more))) (itself (get_or old k default))
      ]

-- a state of a box inside of a hull lies in the hull
module _ (places : List ℕ) (b hull : StateBox) (s : StateValue) (inside : IsInside b hull) (contains : Contains places b s) (as_many_facts : length hull.facts ≡ length s.facts) (as_many_values : length hull.fluents ≡ length s.values) where
  within : LiesWithin b hull
  within = inside (sym contains.as_many_facts ∙ sym as_many_facts, sym contains.as_many_values ∙ sym as_many_values)

  pub facts_inside : (f : ℕ) → f < length hull.facts → may_be (get_or hull.facts f Any) (get_or s.facts f false) ≡ true
  facts_inside f h =
      let k = subst (λ (n : ℕ). f < n) (sym within.as_many_facts) h in
      may_be_wider (fact_in b f) (fact_in hull f) (get_or s.facts f false) (within.facts f k) (contains.facts f k)

  pub values_inside : (x : ℕ) → x < length hull.fluents → has (fluent_in hull x) (fluent_value places s x) ≡ true
  values_inside x h =
      let k = subst (λ (n : ℕ). x < n) (sym within.as_many_fluents) h in
      has_within (fluent_in b x) (fluent_in hull x) (fluent_value places s x) (within.fluents x k) (contains.fluents x k)

  -- the hull contains it
  pub hull_contains : Contains places hull s
  hull_contains = record { as_many_facts = sym as_many_facts; as_many_values = sym as_many_values; facts = facts_inside; fluents = values_inside }
