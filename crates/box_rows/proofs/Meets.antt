-- What a change demands of an interval, side by side, by the ends that it demands.
use Rattle.std.proofs.Common.{◌≡◌, ℕ, suc, ◌⊎◌, Bool, true, false, ◌&&◌, ◌||◌, List, [], ◌∷◌, Option, Some, None, get_or, sym, refl, ap, ap₂, ◌∙◌, subst, inl, inr, arith}
use Rattle.std.specs.List.{IsAmong}
use Rattle.std.proofs.lemmas.Bool.{cases_Bool}
use Rattle.std.proofs.lemmas.List.Elements.{All-cons, All-nil}
use Rattle.num_ends.specs.Decimal.{Decimal, origin}
use Rattle.num_ends.specs.Ends.{Interval, is_above, is_below, lower_covers, point_of, upper_covers}
use Rattle.num_ends.specs.declared.ends.End.{End}
use Rattle.num_ends.specs.declared.ends.End.TheVariants.{NegInf, Excl, Incl, PosInf}
use Rattle.ground_task.specs.declared.raw.GExpr.{GExpr}
use Rattle.ground_task.specs.declared.raw.GCond.{GCond}
use Rattle.ground_task.specs.declared.raw.Change.{Change}
use Rattle.ground_task.specs.declared.raw.Change.TheVariants.{Add, Set}
use Rattle.box_model.specs.Boxes.{fluent_in}
use Rattle.box_model.specs.Caps.{side_of, IsTightest}
use Rattle.box_model.specs.Demands.{bounds_of, constant_of, covers, end_on, implies, infinity, meets_demand, meets_value, moved_ends, reaches}
use Rattle.box_model.specs.Hold.{interval_of, read_interval}
use Rattle.box_model.specs.declared.caps.Side.{Side}
use Rattle.box_model.specs.declared.caps.Side.TheVariants.{Upper, Lower}
use Rattle.box_model.specs.declared.state_box.StateBox.{StateBox}
use Rattle.box_model.proofs.CapLemmas.{reaches_tightest, some_same}
use Rattle.box_rows.specs.Candidates.{IsDemandedEnd, IsStop}
use Rattle.box_rows.specs.Moves.{is_constant, is_past, may_move}
use Rattle.box_rows.proofs.Growths.{stays}
use Rattle.box_rows.proofs.Sides.{infinity_covers, side_refl, side_total, side_trans}

-- ---- the tightest of some ends

among_later : (e : End) (es : List End) (f : End) → IsAmong es f → IsAmong (e ∷ es) f
among_later e es f (i, (inside, is)) = (suc i, (omega (arith, inside), is))

tightest_among : (side : Side) (e : End) (es : List End) → (f : End) × IsTightest side (e ∷ es) f
tightest_among side e [] = (e, record { one_of = (0, (omega arith, refl)); covered = All-cons (λ o. covers side o e ≡ true) e [] (side_refl side e) (All-nil _) })
tightest_among side e (o ∷ os) =
    let rest = tightest_among side o os in
    let f = rest.0 in
    elim (cases_Bool (covers side f e)) [
      | inl h ↦ (
        e,
        record {
          one_of = (0, (omega arith, refl));
          covered = All-cons (λ o. covers side o e ≡ true) e (o ∷ os) (side_refl side e)
              (λ i d k. side_trans side (get_or (o ∷ os) i d) f e (rest.1.covered i d k) h);
        },
      )
      | inr h ↦ (
        f,
        record {
          one_of = among_later e (o ∷ os) f rest.1.one_of;
          covered = All-cons (λ o. covers side o f ≡ true) e (o ∷ os) (side_total side f e h) rest.1.covered;
        },
      )
    ]

no_ends : (side : Side) (ends : List End) → ((f : End) → IsTightest side ends f → ⊥) → ends ≡ []
no_ends side [] h = refl
no_ends side (e ∷ es) h = let t = tightest_among side e es in absurd (h t.0 t.1)

and_infinity : (side : Side) (ends : List End) (f : End) → IsTightest side ends f → IsTightest side (infinity side ∷ ends) f
and_infinity side ends f tight =
    record {
      one_of = among_later (infinity side) ends f tight.one_of;
      covered = All-cons (λ o. covers side o f ≡ true) (infinity side) ends (infinity_covers side f) tight.covered;
    }

or_nothing : (v : Bool) → (v || false) ≡ v
or_nothing true = refl
or_nothing false = refl

reaches_nothing : (side : Side) (i : Interval) → reaches side [] i ≡ covers side (end_on side i) (infinity side)
reaches_nothing side i = or_nothing (covers side (end_on side i) (infinity side))

none_some : {A : Type 0} {P : Type 0} (o : Option A) (x : A) → o ≡ None → o ≡ Some x → P
none_some None x h k = cc
none_some (Some y) x h k = cc

same_side : (s u : Side) → (s ≡ u) ⊎ (Some s ≡ Some u → ⊥)
same_side Upper Upper = inl refl
same_side Upper Lower = inr (λ e. cc)
same_side Lower Upper = inr (λ e. cc)
same_side Lower Lower = inl refl

none_side : (side : Side) → None ≡ Some side → ⊥
none_side side e = cc

to_side : (o : Option Side) (side : Side) → (o ≡ Some side) ⊎ (o ≡ Some side → ⊥)
to_side None side = inr (none_side side)
to_side (Some s) side = elim (same_side s side) [
  | inl e ↦ inl (ap Some e)
  | inr e ↦ inr e
]

module _ (places : List ℕ) (b : StateBox) (pre : GCond) (x : ℕ) (i : Interval) (side : Side) (end : End) where
  -- a growth
  module _ (e : GExpr) (demanded : IsDemandedEnd places side pre x (Add e) end) where
    abbrev m : Bool
    m = is_past side (point_of origin) (interval_of places b e)

    unbounded : bounds_of places pre x e side ≡ [] → end ≡ infinity side → implies m (reaches side (bounds_of places pre x e side) i) ≡ implies m (covers side (end_on side i) end)
    unbounded none infinite =
        ap (λ (ends : List End). implies m (reaches side ends i)) none ∙ ap (implies m) (reaches_nothing side i) ∙ ap (λ (f : End). implies m (covers side (end_on side i) f)) (sym infinite)

    pub growth_side : implies m (reaches side (bounds_of places pre x e side) i) ≡ implies m (covers side (end_on side i) end)
    growth_side = at demanded
      where
        no_stop : ((other : End) → IsStop places side pre x (Add e) other → ⊥) → end ≡ infinity side → (o : Option Decimal) → constant_of e ≡ o → implies m (reaches side (bounds_of places pre x e side) i) ≡ implies m (covers side (end_on side i) end)
        no_stop none infinite None h = unbounded (ap (λ (o : Option Decimal). moved_ends side (get_or places x 0) x o pre) h) infinite
        no_stop none infinite (Some c) h =
            elim (to_side (side_of c) side) [
              | inl moves ↦
                  let bounds : bounds_of places pre x e side ≡ moved_ends side (get_or places x 0) x (Some c) pre = ap (λ (o : Option Decimal). moved_ends side (get_or places x 0) x o pre) h in
                  unbounded
                  (bounds ∙ no_ends side (moved_ends side (get_or places x 0) x (Some c) pre) (λ f tight.
                  none f (inr (record { cap = record { constant = c; side = side; grows = h; moves = moves; tightest = tight }; on = refl }))))
                  infinite
              | inr other ↦ rw (stays places b side e c h other) refl
            ]

        at : IsDemandedEnd places side pre x (Add e) end → implies m (reaches side (bounds_of places pre x e side) i) ≡ implies m (covers side (end_on side i) end)
        at (inl (inl assigned)) = none_some None assigned.constant refl assigned.assigned
        at (inl (inr capped)) =
            let cap = capped.cap in
            let tight : IsTightest side (moved_ends side (get_or places x 0) x (Some cap.constant) pre) end = subst (λ (s : Side). IsTightest s (moved_ends s (get_or places x 0) x (Some cap.constant) pre) end) capped.on cap.tightest in
            let here : IsTightest side (bounds_of places pre x e side) end = subst (λ (o : Option Decimal). IsTightest side (moved_ends side (get_or places x 0) x o pre) end) (sym cap.grows) tight in
            ap (implies m) (reaches_tightest side (bounds_of places pre x e side) end i (and_infinity side (bounds_of places pre x e side) end here))
        at (inr (none, infinite)) = no_stop none infinite (constant_of e) refl

  -- an assignment
  module _ (e : GExpr) (demanded : IsDemandedEnd places side pre x (Set e) end) where
    pub constant_end : (c : Decimal) → constant_of e ≡ Some c → end ≡ Incl c
    constant_end c h = at demanded
      where
        at : IsDemandedEnd places side pre x (Set e) end → end ≡ Incl c
        at (inl (inl assigned)) = assigned.closed ∙ ap Incl (some_same assigned.constant c (sym assigned.assigned ∙ h))
        at (inl (inr capped)) = none_some None capped.cap.constant refl capped.cap.grows
        at (inr (none, infinite)) = absurd (none (Incl c) (inl (record { constant = c; assigned = h; closed = refl })))

    pub other_end : constant_of e ≡ None → end ≡ infinity side
    other_end h = at demanded
      where
        at : IsDemandedEnd places side pre x (Set e) end → end ≡ infinity side
        at (inl (inl assigned)) = none_some (constant_of e) assigned.constant h assigned.assigned
        at (inl (inr capped)) = none_some None capped.cap.constant refl capped.cap.grows
        at (inr (none, infinite)) = infinite

    pub value_side : constant_of e ≡ None → (m : Bool) → implies m (reaches side [] i) ≡ implies m (covers side (end_on side i) end)
    value_side h m = ap (implies m) (reaches_nothing side i ∙ ap (covers side (end_on side i)) (sym (other_end h)))

pub below_is : (u : End) (c : Decimal) → is_below u c ≡ upper_covers u (Incl c)
below_is NegInf c = refl
below_is (Excl d) c = refl
below_is (Incl d) c = refl
below_is PosInf c = refl

pub above_is : (l : End) (c : Decimal) → is_above l c ≡ lower_covers l (Incl c)
above_is NegInf c = refl
above_is (Excl d) c = refl
above_is (Incl d) c = refl
above_is PosInf c = refl

turned : (p q : Bool) → (p && q) ≡ (q && p)
turned true true = refl
turned true false = refl
turned false true = refl
turned false false = refl

-- what a change demands of an interval on one side
abbrev pub meets_value_part : Option Decimal → Interval → Interval → Interval → Side → Bool
meets_value_part (Some c) had to i side = covers side (end_on side i) (Incl c)
meets_value_part None had to i side = implies (is_past side had to) (reaches side [] i)

abbrev pub meets_part : List ℕ → StateBox → GCond → ℕ → Change → Interval → Side → Bool
meets_part places b pre x (Add e) i side = implies (is_past side (point_of origin) (interval_of places b e)) (reaches side (bounds_of places pre x e side) i)
meets_part places b pre x (Set e) i side = meets_value_part (constant_of e) (read_interval (get_or places x 0) (fluent_in b x)) (interval_of places b e) i side

value_parts : (o : Option Decimal) (had to i : Interval) → meets_value o had to i ≡ (meets_value_part o had to i Upper && meets_value_part o had to i Lower)
value_parts None had to i = refl
value_parts (Some c) had to i = turned (is_above i.0 c) (is_below i.1 c) ∙ ap₂ (λ (p q : Bool). p && q) (below_is i.1 c) (above_is i.0 c)

-- a demand is met where it is on both sides
pub meets_parts : (places : List ℕ) (b : StateBox) (pre : GCond) (x : ℕ) (change : Change) (i : Interval)
    → meets_demand places b pre x change i ≡ (meets_part places b pre x change i Upper && meets_part places b pre x change i Lower)
meets_parts places b pre x (Add e) i = refl
meets_parts places b pre x (Set e) i = value_parts (constant_of e) (read_interval (get_or places x 0) (fluent_in b x)) (interval_of places b e) i

-- it is met on one side where the end there is as far out as the end demanded, if the change may move it that way
pub part_is : (places : List ℕ) (b : StateBox) (pre : GCond) (x : ℕ) (change : Change) (i : Interval) (side : Side) (end : End) → IsDemandedEnd places side pre x change end
    → meets_part places b pre x change i side ≡ implies (may_move places b side x change) (covers side (end_on side i) end)
part_is places b pre x (Add e) i side end demanded = growth_side places b pre x i side end e demanded
part_is places b pre x (Set e) i side end demanded = at (constant_of e) refl
  where
    had : Interval
    had = read_interval (get_or places x 0) (fluent_in b x)

    to : Interval
    to = interval_of places b e

    at : (o : Option Decimal) → constant_of e ≡ o →
        meets_value_part (constant_of e) had to i side ≡ implies (is_constant (constant_of e) || is_past side had to) (covers side (end_on side i) end)
    at None h =
        ap (λ (o : Option Decimal). meets_value_part o had to i side) h ∙ value_side places b pre x i side end e demanded h (is_past side had to)
        ∙ ap (λ (o : Option Decimal). implies (is_constant o || is_past side had to) (covers side (end_on side i) end)) (sym h)
    at (Some c) h =
        ap (λ (o : Option Decimal). meets_value_part o had to i side) h ∙ ap (covers side (end_on side i)) (sym (constant_end places b pre x i side end e demanded c h))
        ∙ ap (λ (o : Option Decimal). implies (is_constant o || is_past side had to) (covers side (end_on side i) end)) (sym h)
