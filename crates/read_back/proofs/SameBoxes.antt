-- A box whose ends are brought to the fewest places has the same states, and is dead where the box is.
use Rattle.std.proofs.Common.{◌≡◌, ℕ, zero, suc, ◌<◌, ◌≤◌, ◌==◌, ◌&&◌, ◌||◌, Bool, true, false, not, List, [], ◌∷◌, Option, Some, None, IsTrue, get_or, length, map, refl, sym, ap, ap₂, ◌∙◌, subst, arith}
use Rattle.std.specs.List.{list_all, list_any}
use Rattle.num_ends.specs.Arithmetic.{outward_of}
use Rattle.num_ends.specs.Decimal.{Decimal, InRange, is_at_most, is_less, origin, trimmed}
use Rattle.num_ends.specs.Ends.{Interval, has, is_above, is_below, is_inhabited, lower_covers, may_less, point_of, upper_covers, whole_line}
use Rattle.num_ends.specs.declared.ends.End.{End}
use Rattle.num_ends.specs.declared.ends.End.TheVariants.{NegInf, Excl, Incl, PosInf}
use Rattle.num_ends.proofs.Trimmed.{less_of_trimmed, trimmed_twice}
use Rattle.ground_task.specs.Meaning.{fluent_value}
use Rattle.ground_task.specs.Placed.{places_layer}
use Rattle.ground_task.specs.States.{StateValue}
use Rattle.ground_task.specs.Tasks.{TaskValue}
use Rattle.ground_task.specs.declared.raw.Change.{Change}
use Rattle.ground_task.specs.declared.raw.Change.TheVariants.{Add, Set}
use Rattle.ground_task.specs.declared.raw.GCond.{GCond, GCond-F, fold-GCond}
use Rattle.ground_task.specs.declared.raw.GCond.TheOpen as cond
use Rattle.ground_task.specs.declared.raw.GExpr.{GExpr, GExpr-F, fold-GExpr, map-GExpr}
use Rattle.ground_task.specs.declared.raw.GExpr.TheOpen as expr
use Rattle.ground_task.specs.declared.raw.Ground.{Ground}
use Rattle.box_model.proofs.Numbers.{least_trimmed, most_trimmed}
use Rattle.box_model.specs.Boxes.{Contains, IsBoxOf, IsEndFor, fact_in, fluent_in, may_be}
use Rattle.box_model.specs.Demands.{bounds_of, constant_of, covers, end_on, implies, infinity, is_closed, is_unmet, meets, meets_change, meets_growth, meets_value, reaches}
use Rattle.box_model.specs.Hold.{Ranging, combined, interval_of, may_hold, may_hold_layer, may_stand, ranging_layer, read_interval, trimmed_end}
use Rattle.box_model.specs.Least.{IsDead}
use Rattle.box_model.specs.declared.caps.Side.{Side}
use Rattle.box_model.specs.declared.caps.Side.TheVariants.{Upper, Lower}
use Rattle.box_model.specs.declared.state_box.StateBox.{StateBox}
use Rattle.read_back.specs.Certificates.{trimmed_box, trimmed_interval}
use Rattle.read_back.proofs.Ends.{inhabited_trimmed}

-- ---- comparisons

less_left : (a b : Decimal) → is_less (trimmed a) b ≡ is_less a b
less_left a b = sym (less_of_trimmed (trimmed a) b) ∙ ap (λ (c : Decimal). is_less c (trimmed b)) (trimmed_twice a) ∙ less_of_trimmed a b

less_right : (a b : Decimal) → is_less a (trimmed b) ≡ is_less a b
less_right a b = sym (less_of_trimmed a (trimmed b)) ∙ ap (λ (c : Decimal). is_less (trimmed a) c) (trimmed_twice b) ∙ less_of_trimmed a b

most_left : (a b : Decimal) → is_at_most (trimmed a) b ≡ is_at_most a b
most_left a b = sym (least_trimmed b a)

most_right : (a b : Decimal) → is_at_most a (trimmed b) ≡ is_at_most a b
most_right a b = sym (most_trimmed a b)

-- ---- ends

end_twice : (e : End) → trimmed_end (trimmed_end e) ≡ trimmed_end e
end_twice NegInf = refl
end_twice (Excl d) = ap Excl (trimmed_twice d)
end_twice (Incl d) = ap Incl (trimmed_twice d)
end_twice PosInf = refl

above_same : (e : End) (d : Decimal) → is_above (trimmed_end e) d ≡ is_above e d
above_same NegInf d = refl
above_same (Excl a) d = less_left a d
above_same (Incl a) d = most_left a d
above_same PosInf d = refl

below_same : (e : End) (d : Decimal) → is_below (trimmed_end e) d ≡ is_below e d
below_same NegInf d = refl
below_same (Excl a) d = less_right d a
below_same (Incl a) d = most_right d a
below_same PosInf d = refl

lower_same : (a b : End) → lower_covers (trimmed_end a) b ≡ lower_covers a b
lower_same NegInf b = refl
lower_same (Excl a) NegInf = refl
lower_same (Excl a) (Excl b) = most_left a b
lower_same (Excl a) (Incl b) = less_left a b
lower_same (Excl a) PosInf = refl
lower_same (Incl a) NegInf = refl
lower_same (Incl a) (Excl b) = most_left a b
lower_same (Incl a) (Incl b) = most_left a b
lower_same (Incl a) PosInf = refl
lower_same PosInf b = refl

upper_same : (a b : End) → upper_covers (trimmed_end a) b ≡ upper_covers a b
upper_same PosInf b = refl
upper_same (Excl a) PosInf = refl
upper_same (Excl a) (Excl b) = most_right b a
upper_same (Excl a) (Incl b) = less_right b a
upper_same (Excl a) NegInf = refl
upper_same (Incl a) PosInf = refl
upper_same (Incl a) (Excl b) = most_right b a
upper_same (Incl a) (Incl b) = most_right b a
upper_same (Incl a) NegInf = refl
upper_same NegInf b = refl

fits_too : (q : ℕ) (e : End) → IsEndFor q e → IsEndFor q (trimmed_end e)
fits_too q NegInf h = h
fits_too q (Excl d) h = (subst (λ (c : Decimal). c.p ≤ q) (sym (trimmed_twice d)) h.0, subst (λ (c : Decimal). InRange c.n) (sym (trimmed_twice d)) h.1)
fits_too q (Incl d) h = (subst (λ (c : Decimal). c.p ≤ q) (sym (trimmed_twice d)) h.0, subst (λ (c : Decimal). InRange c.n) (sym (trimmed_twice d)) h.1)
fits_too q PosInf h = h

fits_before : (q : ℕ) (e : End) → IsEndFor q (trimmed_end e) → IsEndFor q e
fits_before q NegInf h = h
fits_before q (Excl d) h = (subst (λ (c : Decimal). c.p ≤ q) (trimmed_twice d) h.0, subst (λ (c : Decimal). InRange c.n) (trimmed_twice d) h.1)
fits_before q (Incl d) h = (subst (λ (c : Decimal). c.p ≤ q) (trimmed_twice d) h.0, subst (λ (c : Decimal). InRange c.n) (trimmed_twice d) h.1)
fits_before q PosInf h = h

-- ---- intervals

has_same : (i : Interval) (d : Decimal) → has (trimmed_interval i) d ≡ has i d
has_same i d = ap₂ (λ (a b : Bool). a && b) (above_same i.0 d) (below_same i.1 d)

read_same : (q : ℕ) (i : Interval) → read_interval q (trimmed_interval i) ≡ read_interval q i
read_same q i = ap₂ (λ (l u : End). outward_of q (l, u)) (end_twice i.0) (end_twice i.1)

covers_same : (side : Side) (i : Interval) (b : End) → covers side (end_on side (trimmed_interval i)) b ≡ covers side (end_on side i) b
covers_same Upper i b = upper_same i.1 b
covers_same Lower i b = lower_same i.0 b

reaches_same : (side : Side) (ends : List End) (i : Interval) → reaches side ends (trimmed_interval i) ≡ reaches side ends i
reaches_same side ends i = ap (λ (test : End → Bool). list_any test (infinity side ∷ ends)) (λ k b. covers_same side i b k)

growth_same : (bounds : Side → List End) (by i : Interval) → meets_growth bounds by (trimmed_interval i) ≡ meets_growth bounds by i
growth_same bounds by i = ap₂
    (λ (u l : Bool). implies (may_less (point_of origin) by) u && implies (may_less by (point_of origin)) l)
    (reaches_same Upper (bounds Upper) i) (reaches_same Lower (bounds Lower) i)

value_same : (found : Option Decimal) (had to i : Interval) → meets_value found had to (trimmed_interval i) ≡ meets_value found had to i
value_same (Some c) had to i = has_same i c
value_same None had to i = ap₂
    (λ (u l : Bool). implies (may_less had to) u && implies (may_less to had) l)
    (reaches_same Upper [] i) (reaches_same Lower [] i)

interval_at : (is : List Interval) (x : ℕ) → get_or (map trimmed_interval is) x whole_line ≡ trimmed_interval (get_or is x whole_line)
interval_at [] x = refl
interval_at (i ∷ is) zero = refl
interval_at (i ∷ is) (suc x) = interval_at is x

as_many_intervals : (is : List Interval) → length (map trimmed_interval is) ≡ length is
as_many_intervals [] = refl
as_many_intervals (i ∷ is) = ap suc (as_many_intervals is)

-- ---- boxes

module _ (places : List ℕ) (b : StateBox) where
  abbrev same : StateBox
  same = trimmed_box b

  fluent_same : (x : ℕ) → fluent_in same x ≡ trimmed_interval (fluent_in b x)
  fluent_same x = interval_at b.fluents x

  combined_same : (o : GExpr-F Interval) → combined same o ≡ combined b o
  combined_same (expr.Const c) = refl
  combined_same (expr.Read x) =
      ap trimmed_interval (fluent_same x)
      ∙ ap₂ (λ (l u : End). (l, u)) (end_twice (fluent_in b x).0) (end_twice (fluent_in b x).1)
  combined_same (expr.Add i j) = refl
  combined_same (expr.Sub i j) = refl
  combined_same (expr.Mul i j) = refl

  ranging_same : (o : GExpr-F Ranging) → ranging_layer places same o ≡ ranging_layer places b o
  ranging_same o =
      let q = places_layer places (map-GExpr Ranging ℕ (λ r. r.places) o) in
      ap (λ (i : Interval). record { interval = outward_of q i; places = q }) (combined_same (map-GExpr Ranging Interval (λ r. r.interval) o))

  interval_same : (e : GExpr) → interval_of places same e ≡ interval_of places b e
  interval_same e = ap (λ (layer : GExpr-F Ranging → Ranging). (fold-GExpr Ranging layer e).interval) (λ k o. ranging_same o k)

  hold_layer_same : (o : GCond-F Bool) → may_hold_layer places same o ≡ may_hold_layer places b o
  hold_layer_same cond.True = refl
  hold_layer_same cond.False = refl
  hold_layer_same (cond.Fact f truth) = refl
  hold_layer_same (cond.Cmp r e1 e2) = ap₂ (may_stand r) (interval_same e1) (interval_same e2)
  hold_layer_same (cond.And cs) = refl
  hold_layer_same (cond.Or cs) = refl

  pub hold_same : (g : GCond) → may_hold places same g ≡ may_hold places b g
  hold_same g = ap (λ (layer : GCond-F Bool → Bool). fold-GCond Bool layer g) (λ k o. hold_layer_same o k)

  change_same : (pre : GCond) (x : ℕ) (change : Change) → meets_change places same pre x change ≡ meets_change places b pre x change
  change_same pre x (Add e) =
      ap₂ (λ (by i : Interval). meets_growth (bounds_of places pre x e) by i) (interval_same e) (fluent_same x)
      ∙ growth_same (bounds_of places pre x e) (interval_of places b e) (fluent_in b x)
  change_same pre x (Set e) =
      let q = get_or places x 0 in
      ap₂ (λ (had i : Interval). meets_value (constant_of e) had (interval_of places same e) i)
      (ap (read_interval q) (fluent_same x) ∙ read_same q (fluent_in b x)) (fluent_same x)
      ∙ ap (λ (to : Interval). meets_value (constant_of e) (read_interval q (fluent_in b x)) to (trimmed_interval (fluent_in b x))) (interval_same e)
      ∙ value_same (constant_of e) (read_interval q (fluent_in b x)) (interval_of places b e) (fluent_in b x)

  meets_same : (a : Ground) → meets places same a ≡ meets places b a
  meets_same a = ap
      (λ (test : ℕ × Change → Bool).
      list_all (λ f. may_be (fact_in b f) true) a.adds
      && list_all (λ f. list_any (λ g. g == f) a.adds || may_be (fact_in b f) false) a.dels
      && list_all test a.nums)
      (λ k effect. change_same a.pre effect.0 effect.1 k)

  unmet_same : (a : Ground) → is_unmet places same a ≡ is_unmet places b a
  unmet_same a = ap₂ (λ (may met : Bool). may && not met) (hold_same a.pre) (meets_same a)

pub closed_same : (t : TaskValue) (b : StateBox) → is_closed t (trimmed_box b) ≡ is_closed t b
closed_same t b = ap (λ (test : Ground → Bool). list_all (λ a. not (test a)) t.raw.actions) (λ k a. unmet_same t.places b a k)

pub same_box_of : (t : TaskValue) (b : StateBox) → IsBoxOf t b → IsBoxOf t (trimmed_box b)
same_box_of t b is =
    let back : (x : ℕ) → x < length (map trimmed_interval b.fluents) → x < length b.fluents =
    λ x l. omega (arith, l, as_many_intervals b.fluents) in
    record {
      as_many_facts = is.as_many_facts;
      as_many_fluents = as_many_intervals b.fluents ∙ is.as_many_fluents;
      inhabited = λ x l.
          subst (λ (i : Interval). IsTrue (is_inhabited i.0 i.1)) (sym (fluent_same t.places b x))
          (inhabited_trimmed (fluent_in b x).0 (fluent_in b x).1 ∙ is.inhabited x (back x l));
      lower_fits = λ x l.
          subst (λ (i : Interval). IsEndFor (get_or t.places x 0) i.0) (sym (fluent_same t.places b x))
          (fits_too (get_or t.places x 0) (fluent_in b x).0 (is.lower_fits x (back x l)));
      upper_fits = λ x l.
          subst (λ (i : Interval). IsEndFor (get_or t.places x 0) i.1) (sym (fluent_same t.places b x))
          (fits_too (get_or t.places x 0) (fluent_in b x).1 (is.upper_fits x (back x l)));
    }

box_of_before : (t : TaskValue) (b : StateBox) → IsBoxOf t (trimmed_box b) → IsBoxOf t b
box_of_before t b is =
    let there : (x : ℕ) → x < length b.fluents → x < length (map trimmed_interval b.fluents) =
    λ x l. omega (arith, l, as_many_intervals b.fluents) in
    record {
      as_many_facts = is.as_many_facts;
      as_many_fluents = sym (as_many_intervals b.fluents) ∙ is.as_many_fluents;
      inhabited = λ x l.
          sym (inhabited_trimmed (fluent_in b x).0 (fluent_in b x).1)
          ∙ subst (λ (i : Interval). IsTrue (is_inhabited i.0 i.1)) (fluent_same t.places b x) (is.inhabited x (there x l));
      lower_fits = λ x l.
          fits_before (get_or t.places x 0) (fluent_in b x).0
          (subst (λ (i : Interval). IsEndFor (get_or t.places x 0) i.0) (fluent_same t.places b x) (is.lower_fits x (there x l)));
      upper_fits = λ x l.
          fits_before (get_or t.places x 0) (fluent_in b x).1
          (subst (λ (i : Interval). IsEndFor (get_or t.places x 0) i.1) (fluent_same t.places b x) (is.upper_fits x (there x l)));
    }

pub same_dead : (t : TaskValue) (b : StateBox) → IsDead t b → IsDead t (trimmed_box b)
same_dead t b is = record {
  a_box = same_box_of t b is.a_box;
  closed = closed_same t b ∙ is.closed;
  misses_goal = hold_same t.places b t.raw.goal ∙ is.misses_goal;
}

pub same_contains : (places : List ℕ) (b : StateBox) (s : StateValue) → Contains places b s → Contains places (trimmed_box b) s
same_contains places b s is = record {
  as_many_facts = is.as_many_facts;
  as_many_values = is.as_many_values ∙ sym (as_many_intervals b.fluents);
  facts = is.facts;
  fluents = λ x l.
      ap (λ (i : Interval). has i (fluent_value places s x)) (fluent_same places b x)
      ∙ has_same (fluent_in b x) (fluent_value places s x)
      ∙ is.fluents x (omega (arith, l, as_many_intervals b.fluents));
}

-- ---- and back

pub dead_before : (t : TaskValue) (b : StateBox) → IsDead t (trimmed_box b) → IsDead t b
dead_before t b is = record {
  a_box = box_of_before t b is.a_box;
  closed = sym (closed_same t b) ∙ is.closed;
  misses_goal = sym (hold_same t.places b t.raw.goal) ∙ is.misses_goal;
}

pub contains_before : (places : List ℕ) (b : StateBox) (s : StateValue) → Contains places (trimmed_box b) s → Contains places b s
contains_before places b s is = record {
  as_many_facts = is.as_many_facts;
  as_many_values = is.as_many_values ∙ as_many_intervals b.fluents;
  facts = is.facts;
  fluents = λ x l.
      sym (has_same (fluent_in b x) (fluent_value places s x))
      ∙ sym (ap (λ (i : Interval). has i (fluent_value places s x)) (fluent_same places b x))
      ∙ is.fluents x (omega (arith, l, as_many_intervals b.fluents));
}
