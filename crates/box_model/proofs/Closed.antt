-- A closed box holds each step from a state in it, and so each plan.
use Rattle.std.proofs.Common.{◌≡◌, ℕ, ◌+◌, ◌<◌, ◌≤◌, Bool, true, false, not, cond as choose, ◌&&◌, ◌||◌, ◌⊎◌, ◌==◌, ℤ, ◌+ℤ◌, List, [], ◌∷◌, Option, Some, None, get_or, pos, sym, refl, ap, ◌∙◌, subst, inl, inr, arith, eqb-true, int_lt, int_le, slice_get, zero, suc}
use Rattle.std.specs.List.{list_all, list_any}
use Rattle.std.proofs.lemmas.Int.{ints}
use Rattle.std.proofs.lemmas.Bool.{and_parts, and_from, or_cases, cases_Bool, cases_lt, both_ways}
use borrow.Author.Differences.{up, down, same_in, true_is_lt, true_is_le}
use Rattle.num_ends.specs.Decimal.{Decimal, common_places, number_at, origin, is_at_most, is_same_value, sum_of}
use Rattle.num_ends.specs.Ends.{Interval, has, point_of, is_above, is_below, may_less, lower_covers, upper_covers}
use Rattle.num_ends.specs.declared.ends.End.{End}
use Rattle.num_ends.specs.declared.ends.End.TheVariants.{NegInf, Excl, Incl, PosInf}
use Rattle.ground_task.specs.States.{StateValue}
use Rattle.ground_task.specs.Tasks.{TaskValue}
use Rattle.ground_task.specs.Meaning.{fluent_value, value_of, holds}
use Rattle.ground_task.specs.Steps.{change_of, changed_value, Leads, StepLeads, PlanLeads, IsPlanFrom}
use Rattle.ground_task.specs.declared.raw.GExpr.{GExpr}
use Rattle.ground_task.specs.declared.raw.GCond.{GCond}
use Rattle.ground_task.specs.declared.raw.Change.{Change}
use Rattle.ground_task.specs.declared.raw.Change.TheVariants.{Add, Set}
use Rattle.ground_task.specs.declared.raw.Ground.{Ground}
use Rattle.box_model.specs.Boxes.{fact_in, fluent_in, may_be, Contains, IsBoxOf}
use Rattle.box_model.specs.Hold.{interval_of, may_hold, read_interval}
use Rattle.box_model.specs.declared.caps.Side.{Side}
use Rattle.box_model.specs.declared.caps.Side.TheVariants.{Upper, Lower}
use Rattle.box_model.specs.Demands.{bounds_of, constant_of, covers, implies, is_closed, is_unmet, meets, meets_change, meets_growth, meets_value, moved_ends, reaches}
use Rattle.box_model.specs.Least.{IsDead}
use Rattle.box_model.specs.declared.state_box.May.{May}
use Rattle.box_model.specs.declared.state_box.StateBox.{StateBox}
use Rattle.num_ends.proofs.DecimalOrder.{less_at, most_at, most_refl, same_is_most, same_back}
use Rattle.num_ends.proofs.Meetings.{less_met}
use Rattle.num_ends.proofs.Members.{above_covered, below_covered, above_rises, below_falls}
use Rattle.box_model.proofs.Numbers.{number_same, nothing_at, has_trimmed}
use Rattle.box_model.proofs.CapLemmas.{lets_in, some_same, constant_value, ends_let_in}
use Rattle.box_model.proofs.ReadLemmas.{AllFit, all_fit, fits_anywhere, has_read}
use Rattle.box_model.proofs.Soundness.{fact_inside, fluent_inside, value_inside, holds_sound}

-- ---- whole numbers

cases_numbers : (x y : ℤ) → (int_lt x y ≡ true) ⊎ ((int_lt y x ≡ true) ⊎ (x ≡ y))
cases_numbers x y =
    elim (cases_lt (up x + down y) (up y + down x)) [
      | inl h ↦ inl (sym (true_is_lt x y h))
      | inr h ↦ elim (cases_lt (up y + down x) (up x + down y)) [
        | inl k ↦ inr (inl (sym (true_is_lt y x k)))
        | inr k ↦ inr (inr (same_in x y (omega arith)))
      ]
    ]

lt_le : (x y : ℤ) → int_lt x y ≡ true → int_le x y ≡ true
lt_le x y h = sym (true_is_le x y (omega (arith, ints)))

le_same : (x y : ℤ) → x ≡ y → int_le x y ≡ true
le_same x y e = sym (true_is_le x y (omega (arith, ints, ap up e, ap down e)))

grown : (v g : ℤ) → int_lt (pos 0) g ≡ true → int_le v (v +ℤ g) ≡ true
grown v g h = sym (true_is_le v (v +ℤ g) (omega (arith, ints)))

shrunk : (v g : ℤ) → int_lt g (pos 0) ≡ true → int_le (v +ℤ g) v ≡ true
shrunk v g h = sym (true_is_le (v +ℤ g) v (omega (arith, ints)))

kept : (v g : ℤ) → g ≡ pos 0 → v +ℤ g ≡ v
kept v g e = same_in (v +ℤ g) v (omega (arith, ints, ap up e, ap down e))

-- ---- one change

-- by the numbers at the larger count of places
module _ (a b : Decimal) where
  most_by : (q : ℕ) → a.p ≤ q → b.p ≤ q → int_le (number_at q a) (number_at q b) ≡ true → is_at_most a b ≡ true
  most_by q h k l = most_at q a b h k ∙ l

implied : (p q : Bool) → implies p q ≡ true → p ≡ true → q ≡ true
implied true q h e = h
implied false q h e = cc

-- an end that is as far out as one of those that let a decimal in lets it in
some_covered : (side : Side) (e : End) (d : Decimal) (fs : List End) → list_all (λ f. lets_in side f d) fs ≡ true → list_any (covers side e) fs ≡ true → lets_in side e d ≡ true
some_covered side e d [] h k = cc
some_covered side e d (f ∷ fs) h k =
    let parts = and_parts (lets_in side f d) _ h in
    elim (or_cases (covers side e f) _ k) [
      | inl here ↦ lets_in_covered side e f d here parts.0
      | inr later ↦ some_covered side e d fs parts.1 later
    ]
  where
    lets_in_covered : (side : Side) (e f : End) (d : Decimal) → covers side e f ≡ true → lets_in side f d ≡ true → lets_in side e d ≡ true
    lets_in_covered Upper e f d h k = below_covered e f d h k
    lets_in_covered Lower e f d h k = above_covered e f d h k

infinite_above : (u : End) (d : Decimal) → upper_covers u PosInf ≡ true → is_below u d ≡ true
infinite_above NegInf d h = cc
infinite_above (Excl e) d h = cc
infinite_above (Incl e) d h = cc
infinite_above PosInf d h = refl

infinite_below : (l : End) (d : Decimal) → lower_covers l NegInf ≡ true → is_above l d ≡ true
infinite_below NegInf d h = refl
infinite_below (Excl e) d h = cc
infinite_below (Incl e) d h = cc
infinite_below PosInf d h = cc

reached_upper : (u : End) (d : Decimal) (fs : List End) → list_all (λ f. lets_in Upper f d) fs ≡ true → list_any (covers Upper u) (PosInf ∷ fs) ≡ true → is_below u d ≡ true
reached_upper u d fs h k =
    elim (or_cases (upper_covers u PosInf) _ k) [
      | inl infinite ↦ infinite_above u d infinite
      | inr some ↦ some_covered Upper u d fs h some
    ]

reached_lower : (l : End) (d : Decimal) (fs : List End) → list_all (λ f. lets_in Lower f d) fs ≡ true → list_any (covers Lower l) (NegInf ∷ fs) ≡ true → is_above l d ≡ true
reached_lower l d fs h k =
    elim (or_cases (lower_covers l NegInf) _ k) [
      | inl infinite ↦ infinite_below l d infinite
      | inr some ↦ some_covered Lower l d fs h some
    ]

-- the old value w, and the value d of the right-hand side
module _ (i by : Interval) (w d : Decimal) (old : has i w ≡ true) (inside : has by d ≡ true) where
  below_old : is_below i.1 w ≡ true
  below_old = (and_parts (is_above i.0 w) _ old).1

  above_old : is_above i.0 w ≡ true
  above_old = (and_parts (is_above i.0 w) _ old).0

  abbrev q : ℕ
  q = common_places w d

  abbrev v : ℤ
  v = number_at q w

  abbrev g : ℤ
  g = number_at q d

  abbrev grown_to : Decimal
  grown_to = sum_of w d

  grown_number : number_at q grown_to ≡ v +ℤ g
  grown_number = number_same q grown_to refl

  -- a growth up stays above, one down below, and one by 0 stays
  up_most : int_lt (pos 0) g ≡ true → is_at_most w grown_to ≡ true
  up_most h = most_by w grown_to q (omega arith) (omega arith) (ap (int_le v) grown_number ∙ grown v g h)

  down_most : int_lt g (pos 0) ≡ true → is_at_most grown_to w ≡ true
  down_most h = most_by grown_to w q (omega arith) (omega arith) (ap (λ (m : ℤ). int_le m v) grown_number ∙ shrunk v g h)

  still_most : pos 0 ≡ g → (is_at_most w grown_to ≡ true) × (is_at_most grown_to w ≡ true)
  still_most e =
      let same : v ≡ v +ℤ g = sym (kept v g (sym e)) in (
        most_by w grown_to q (omega arith) (omega arith) (ap (int_le v) grown_number ∙ le_same v (v +ℤ g) same),
        most_by grown_to w q (omega arith) (omega arith) (ap (λ (m : ℤ). int_le m v) grown_number ∙ le_same (v +ℤ g) v (sym same)),
      )

  may_rise : int_lt (pos 0) g ≡ true → may_less (point_of origin) by ≡ true
  may_rise h =
      less_met (point_of origin) by origin d (and_from _ _ (most_refl origin) (most_refl origin)) inside
      (less_at q origin d (omega arith) (omega arith) ∙ ap (λ (m : ℤ). int_lt m g) (nothing_at q) ∙ h)

  may_fall : int_lt g (pos 0) ≡ true → may_less by (point_of origin) ≡ true
  may_fall h =
      less_met by (point_of origin) d origin inside (and_from _ _ (most_refl origin) (most_refl origin))
      (less_at q d origin (omega arith) (omega arith) ∙ ap (int_lt g) (nothing_at q) ∙ h)

  -- where each end that the bounds give lets the grown value in
  pub grown_inside : (bounds : Side → List End) → ((side : Side) → list_all (λ f. lets_in side f grown_to) (bounds side) ≡ true) → meets_growth bounds by i ≡ true → has i grown_to ≡ true
  grown_inside bounds let_in h =
      let parts = and_parts (implies (may_less (point_of origin) by) (reaches Upper (bounds Upper) i)) _ h in
      elim (cases_numbers (pos 0) g) [
        | inl up' ↦
            and_from _ _ (above_rises i.0 w grown_to (up_most up') above_old)
            (reached_upper i.1 grown_to (bounds Upper) (let_in Upper) (implied _ _ parts.0 (may_rise up')))
        | inr rest ↦ elim rest [
          | inl down' ↦
              and_from _ _ (reached_lower i.0 grown_to (bounds Lower) (let_in Lower) (implied _ _ parts.1 (may_fall down')))
              (below_falls i.1 grown_to w (down_most down') below_old)
          | inr none ↦
              and_from _ _ (above_rises i.0 w grown_to (still_most none).0 above_old) (below_falls i.1 grown_to w (still_most none).1 below_old)
        ]
      ]

  -- where the fluent had the old value among those of the interval `had`
  pub assigned_inside : (had : Interval) → has had w ≡ true → meets_value None had by i ≡ true → has i d ≡ true
  assigned_inside had was h =
      let parts = and_parts (implies (may_less had by) (reaches Upper [] i)) _ h in
      elim (cases_numbers v g) [
        | inl up' ↦
            and_from _ _ (above_rises i.0 w d (most_by w d q (omega arith) (omega arith) (lt_le v g up')) above_old)
            (reached_upper i.1 d [] refl (implied _ _ parts.0 (less_met had by w d was inside (less_at q w d (omega arith) (omega arith) ∙ up'))))
        | inr rest ↦ elim rest [
          | inl down' ↦
              and_from _ _ (reached_lower i.0 d [] refl (implied _ _ parts.1 (less_met by had d w inside was (less_at q d w (omega arith) (omega arith) ∙ down'))))
              (below_falls i.1 d w (most_by d w q (omega arith) (omega arith) (lt_le g v down')) below_old)
          | inr same ↦
              and_from _ _ (above_rises i.0 w d (most_by w d q (omega arith) (omega arith) (le_same v g same)) above_old)
              (below_falls i.1 d w (most_by d w q (omega arith) (omega arith) (le_same g v (sym same))) below_old)
        ]
      ]

-- ---- the changes of an action

module _ (places : List ℕ) (b : StateBox) (s : StateValue) (inside : Contains places b s) (fits : AllFit places b) (pre : GCond) (applies : holds places s pre ≡ true) (x : ℕ) where
  old_inside : has (fluent_in b x) (fluent_value places s x) ≡ true
  old_inside = fluent_inside places b s inside x

  bounds_let_in : (e : GExpr) (o : Option Decimal) → constant_of e ≡ o → (side : Side) →
      list_all (λ f. lets_in side f (sum_of (fluent_value places s x) (value_of places s e))) (moved_ends side (get_or places x 0) x o pre) ≡ true
  bounds_let_in e None is side = refl
  bounds_let_in e (Some c) is side =
      subst (λ (d : Decimal). list_all (λ f. lets_in side f (sum_of (fluent_value places s x) d)) (moved_ends side (get_or places x 0) x (Some c) pre) ≡ true)
      (sym (constant_value places s e c is)) (ends_let_in places s side x c pre applies)

  had_inside : has (read_interval (get_or places x 0) (fluent_in b x)) (fluent_value places s x) ≡ true
  had_inside = has_read (get_or places x 0) (fluent_in b x) (fluent_value places s x) (fits_anywhere places b fits x) old_inside

  set_inside : (e : GExpr) (o : Option Decimal) → constant_of e ≡ o →
      meets_value o (read_interval (get_or places x 0) (fluent_in b x)) (interval_of places b e) (fluent_in b x) ≡ true → has (fluent_in b x) (value_of places s e) ≡ true
  set_inside e None is h =
      assigned_inside (fluent_in b x) (interval_of places b e) (fluent_value places s x) (value_of places s e) old_inside (value_inside places b s inside fits e)
      (read_interval (get_or places x 0) (fluent_in b x)) had_inside h
  set_inside e (Some c) is h =
      subst (λ (d : Decimal). has (fluent_in b x) d ≡ true) (sym (constant_value places s e c is)) (has_trimmed (fluent_in b x) c h)

  pub change_inside : (change : Change) → meets_change places b pre x change ≡ true → has (fluent_in b x) (changed_value places s x (Some change)) ≡ true
  change_inside (Add e) h =
      grown_inside (fluent_in b x) (interval_of places b e) (fluent_value places s x) (value_of places s e) old_inside (value_inside places b s inside fits e)
      (bounds_of places pre x e) (bounds_let_in e (constant_of e) refl) h
  change_inside (Set e) h = set_inside e (constant_of e) refl h

  pub changes_inside : (effects : List (ℕ × Change)) → list_all (λ effect. meets_change places b pre effect.0 effect.1) effects ≡ true →
      has (fluent_in b x) (changed_value places s x (change_of x effects)) ≡ true
  changes_inside [] h = old_inside
  changes_inside (effect ∷ effects) h =
      let parts = and_parts (meets_change places b pre effect.0 effect.1) _ h in
      elim (cases_Bool (effect.0 == x)) [
        | inl here ↦
            subst (λ (t : Bool). has (fluent_in b x) (changed_value places s x (choose t (Some effect.1) (change_of x effects))) ≡ true) (sym here)
            (change_inside effect.1 (subst (λ (y : ℕ). meets_change places b pre y effect.1 ≡ true) (eqb-true effect.0 x here) parts.0))
        | inr other ↦
            subst (λ (t : Bool). has (fluent_in b x) (changed_value places s x (choose t (Some effect.1) (change_of x effects))) ≡ true) (sym other)
            (changes_inside effects parts.1)
      ]

-- ---- the facts

member_passes : (test : ℕ → Bool) (f : ℕ) (gs : List ℕ) → list_all test gs ≡ true → list_any (λ g. g == f) gs ≡ true → test f ≡ true
member_passes test f [] h k = cc
member_passes test f (g ∷ gs) h k =
    let parts = and_parts (test g) _ h in
    elim (cases_Bool (g == f)) [
      | inl here ↦ subst (λ (n : ℕ). test n ≡ true) (eqb-true g f here) parts.0
      | inr other ↦ member_passes test f gs parts.1 (subst (λ (t : Bool). (t || list_any (λ g. g == f) gs) ≡ true) other k)
    ]

-- old truth, added, deleted
fact_after : (m : May) (truth added deleted : Bool) → may_be m truth ≡ true → (added ≡ true → may_be m true ≡ true) →
    (added ≡ false → deleted ≡ true → may_be m false ≡ true) → may_be m (added || (truth && not deleted)) ≡ true
fact_after m truth true deleted h a d = a refl
fact_after m true false true h a d = d refl refl
fact_after m true false false h a d = h
fact_after m false false true h a d = d refl refl
fact_after m false false false h a d = h

-- ---- steps and plans

module _ (t : TaskValue) (b : StateBox) where
  pub closed_at : (actions : List Ground) (number : ℕ) (a : Ground) → list_all (λ a. not (is_unmet t.places b a)) actions ≡ true → slice_get actions number ≡ Some a → not (is_unmet t.places b a) ≡ true
  closed_at [] number a h e = cc
  closed_at (c ∷ cs) zero a h e = subst (λ (g : Ground). not (is_unmet t.places b g) ≡ true) (some_same c a e) (and_parts (not (is_unmet t.places b c)) _ h).0
  closed_at (c ∷ cs) (suc number) a h e = closed_at cs number a (and_parts (not (is_unmet t.places b c)) _ h).1 e

  pub met_where_it_may : (a : Ground) → not (is_unmet t.places b a) ≡ true → may_hold t.places b a.pre ≡ true → meets t.places b a ≡ true
  met_where_it_may a h k = not_not (meets t.places b a) (subst (λ (v : Bool). not (v && not (meets t.places b a)) ≡ true) k h)
    where
      not_not : (v : Bool) → not (true && not v) ≡ true → v ≡ true
      not_not true e = refl
      not_not false e = cc

-- a member's equal is a member
same_inside : (i : Interval) (d e : Decimal) → is_same_value e d ≡ true → has i d ≡ true → has i e ≡ true
same_inside i d e same h =
    let parts = and_parts (is_above i.0 d) _ h in
    and_from _ _ (above_rises i.0 d e (same_is_most d e (same_back e d same)) parts.0) (below_falls i.1 e d (same_is_most e d same) parts.1)

module _ (t : TaskValue) (b : StateBox) (a_box : IsBoxOf t b) where
  meets_inside : (s next : StateValue) (a : Ground) → Contains t.places b s → Leads t.places s a next → meets t.places b a ≡ true → Contains t.places b next
  meets_inside s next a inside leads h =
      let first = and_parts (list_all (λ f. may_be (fact_in b f) true) a.adds && list_all (λ f. list_any (λ g. g == f) a.adds || may_be (fact_in b f) false) a.dels) _ h in
      let second = and_parts (list_all (λ f. may_be (fact_in b f) true) a.adds) _ first.0 in
      record {
        as_many_facts = leads.as_many_facts ∙ inside.as_many_facts;
        as_many_values = leads.as_many_values ∙ inside.as_many_values;
        facts = λ f k.
            subst (λ (v : Bool). may_be (fact_in b f) v ≡ true) (sym (leads.facts f (subst (λ (n : ℕ). f < n) (sym inside.as_many_facts) k)))
            (fact_after (fact_in b f) (get_or s.facts f false) (list_any (λ g. g == f) a.adds) (list_any (λ g. g == f) a.dels) (fact_inside t.places b s inside f)
            (λ added. member_passes (λ g. may_be (fact_in b g) true) f a.adds second.0 added)
            (λ kept deleted.
            subst (λ (v : Bool). (v || may_be (fact_in b f) false) ≡ true) kept
            (member_passes (λ f. list_any (λ g. g == f) a.adds || may_be (fact_in b f) false) f a.dels second.1 deleted)));
        fluents = λ x k.
            same_inside (fluent_in b x) (changed_value t.places s x (change_of x a.nums)) (fluent_value t.places next x)
            (leads.values x (subst (λ (n : ℕ). x < n) (sym inside.as_many_values) k))
            (changes_inside t.places b s inside (all_fit t b a_box) a.pre leads.applies x a.nums first.1);
      }

  pub step_inside : (closed : is_closed t b ≡ true) (s next : StateValue) (number : ℕ) → Contains t.places b s → StepLeads t number s next → Contains t.places b next
  step_inside closed s next number inside (a, at, leads) =
      meets_inside s next a inside leads
      (met_where_it_may t b a (closed_at t b t.raw.actions number a closed at) (holds_sound t.places b s inside (all_fit t b a_box) a.pre leads.applies))

  pub plan_inside : (closed : is_closed t b ≡ true) → (numbers : List ℕ) (s last : StateValue) → Contains t.places b s → PlanLeads t numbers s last → Contains t.places b last
  plan_inside closed [] s last inside e = subst (λ (r : StateValue). Contains t.places b r) e inside
  plan_inside closed (number ∷ numbers) s last inside (next, step, rest) =
      plan_inside closed numbers next last (step_inside closed s next number inside step) rest

  pub no_plan : (dead : IsDead t b) (numbers : List ℕ) (s : StateValue) → Contains t.places b s → IsPlanFrom t s numbers → ⊥
  no_plan dead numbers s inside (last, leads, reached) =
      both_ways (may_hold t.places b t.raw.goal) dead.misses_goal
      (holds_sound t.places b last (plan_inside dead.closed numbers s last inside leads) (all_fit t b a_box) t.raw.goal reached)
