-- What is met stays met in wider intervals, and a wider box demands more.
use Rattle.std.proofs.Common.{◌≡◌, ℕ, Bool, true, false, List, [], ◌∷◌, Option, Some, None, get_or, refl, inl, inr}
use Rattle.std.specs.List.{list_any}
use Rattle.std.proofs.lemmas.Bool.{and_parts, and_from, or_cases, or_left, or_right}
use Rattle.num_ends.specs.Decimal.{Decimal, origin}
use Rattle.num_ends.specs.Ends.{Interval, is_within, lower_covers, may_less, point_of}
use Rattle.num_ends.specs.declared.ends.End.{End}
use Rattle.num_ends.proofs.Members.{has_within, within_refl}
use Rattle.ground_task.specs.declared.raw.Change.{Change}
use Rattle.ground_task.specs.declared.raw.Change.TheVariants.{Add, Set}
use Rattle.ground_task.specs.declared.raw.Rel.TheVariants.{Less}
use Rattle.ground_task.specs.declared.raw.GCond.{GCond}
use Rattle.ground_task.specs.Tasks.{TaskValue}
use Rattle.box_model.specs.Boxes.{fluent_in, IsBoxOf, LiesWithin}
use Rattle.box_model.specs.Demands.{bounds_of, constant_of, covers, end_on, implies, infinity, meets_demand, meets_value, reaches}
use Rattle.box_model.specs.Hold.{interval_of, read_interval}
use Rattle.box_model.specs.declared.caps.Side.{Side}
use Rattle.box_model.specs.declared.caps.Side.TheVariants.{Upper, Lower}
use Rattle.box_model.specs.declared.state_box.StateBox.{StateBox}
use Rattle.box_model.proofs.CapLemmas.{side_trans}
use Rattle.box_model.proofs.Monotony.{fluent_wider, interval_wider, stand_wider}
use Rattle.box_model.proofs.ReadLemmas.{all_fit, fits_anywhere, read_wider}

-- ---- wider intervals

end_wider : (side : Side) (i j : Interval) → is_within i j ≡ true → covers side (end_on side j) (end_on side i) ≡ true
end_wider Upper i j w = (and_parts (lower_covers j.0 i.0) _ w).1
end_wider Lower i j w = (and_parts (lower_covers j.0 i.0) _ w).0

some_wider : (side : Side) (e f : End) (ends : List End) → covers side f e ≡ true → list_any (covers side e) ends ≡ true → list_any (covers side f) ends ≡ true
some_wider side e f [] w h = cc
some_wider side e f (g ∷ ends) w h =
    elim (or_cases (covers side e g) _ h) [
      | inl here ↦ or_left (covers side f g) _ (side_trans side f e g w here)
      | inr later ↦ or_right (covers side f g) _ (some_wider side e f ends w later)
    ]

pub reaches_wider : (side : Side) (ends : List End) (i j : Interval) → is_within i j ≡ true → reaches side ends i ≡ true → reaches side ends j ≡ true
reaches_wider side ends i j w h = some_wider side (end_on side i) (end_on side j) (infinity side ∷ ends) (end_wider side i j w) h

implies_kept : (p q r : Bool) → (q ≡ true → r ≡ true) → implies p q ≡ true → implies p r ≡ true
implies_kept true q r f h = f h
implies_kept false q r f h = refl

pub demand_kept : (places : List ℕ) (b : StateBox) (pre : GCond) (x : ℕ) (change : Change) (i j : Interval) → is_within i j ≡ true →
    meets_demand places b pre x change i ≡ true → meets_demand places b pre x change j ≡ true
demand_kept places b pre x (Add e) i j w h =
    let bounds = bounds_of places pre x e in
    let by = interval_of places b e in
    let parts = and_parts (implies (may_less (point_of origin) by) (reaches Upper (bounds Upper) i)) _ h in
    and_from _ _ (implies_kept (may_less (point_of origin) by) _ _ (reaches_wider Upper (bounds Upper) i j w) parts.0)
    (implies_kept (may_less by (point_of origin)) _ _ (reaches_wider Lower (bounds Lower) i j w) parts.1)
demand_kept places b pre x (Set e) i j w h = value_kept (constant_of e) (read_interval (get_or places x 0) (fluent_in b x)) (interval_of places b e) h
  where
    value_kept : (o : Option Decimal) (had to : Interval) → meets_value o had to i ≡ true → meets_value o had to j ≡ true
    value_kept (Some c) had to k = has_within i j c w k
    value_kept None had to k =
        let parts = and_parts (implies (may_less had to) (reaches Upper [] i)) _ k in
        and_from _ _ (implies_kept (may_less had to) _ _ (reaches_wider Upper [] i j w) parts.0)
        (implies_kept (may_less to had) _ _ (reaches_wider Lower [] i j w) parts.1)

-- ---- wider boxes

implies_less : (p q r : Bool) → (q ≡ true → p ≡ true) → implies p r ≡ true → implies q r ≡ true
implies_less true true r f h = h
implies_less false true r f h = let no : false ≡ true = f refl in cc
implies_less p false r f h = refl

pub demand_less : (t : TaskValue) (b c : StateBox) (pre : GCond) (x : ℕ) (change : Change) (i : Interval) → IsBoxOf t b → IsBoxOf t c → LiesWithin b c →
    meets_demand t.places c pre x change i ≡ true → meets_demand t.places b pre x change i ≡ true
demand_less t b c pre x (Add e) i a d w h =
    let bounds = bounds_of t.places pre x e in
    let wide = interval_wider t.places b c w (all_fit t b a) (all_fit t c d) a.inhabited e in
    let still = within_refl (point_of origin) in
    let parts = and_parts (implies (may_less (point_of origin) (interval_of t.places c e)) (reaches Upper (bounds Upper) i)) _ h in
    and_from _ _
    (implies_less (may_less (point_of origin) (interval_of t.places c e)) (may_less (point_of origin) (interval_of t.places b e)) _
    (stand_wider Less (point_of origin) (interval_of t.places b e) (point_of origin) (interval_of t.places c e) still wide) parts.0)
    (implies_less (may_less (interval_of t.places c e) (point_of origin)) (may_less (interval_of t.places b e) (point_of origin)) _
    (stand_wider Less (interval_of t.places b e) (point_of origin) (interval_of t.places c e) (point_of origin) wide still) parts.1)
demand_less t b c pre x (Set e) i a d w h =
    value_less (constant_of e) h
  where
    had_wider : is_within (read_interval (get_or t.places x 0) (fluent_in b x)) (read_interval (get_or t.places x 0) (fluent_in c x)) ≡ true
    had_wider =
        read_wider (get_or t.places x 0) (fluent_in b x) (fluent_in c x) (fits_anywhere t.places b (all_fit t b a) x) (fits_anywhere t.places c (all_fit t c d) x) (fluent_wider b c w x)

    to_wider : is_within (interval_of t.places b e) (interval_of t.places c e) ≡ true
    to_wider = interval_wider t.places b c w (all_fit t b a) (all_fit t c d) a.inhabited e

    value_less : (o : Option Decimal) → meets_value o (read_interval (get_or t.places x 0) (fluent_in c x)) (interval_of t.places c e) i ≡ true →
        meets_value o (read_interval (get_or t.places x 0) (fluent_in b x)) (interval_of t.places b e) i ≡ true
    value_less (Some k) h = h
    value_less None h =
        let had = read_interval (get_or t.places x 0) (fluent_in b x) in
        let had' = read_interval (get_or t.places x 0) (fluent_in c x) in
        let to = interval_of t.places b e in
        let to' = interval_of t.places c e in
        let parts = and_parts (implies (may_less had' to') (reaches Upper [] i)) _ h in
        and_from _ _ (implies_less (may_less had' to') (may_less had to) _ (stand_wider Less had to had' to' had_wider to_wider) parts.0)
        (implies_less (may_less to' had') (may_less to had) _ (stand_wider Less to had to' had' to_wider had_wider) parts.1)
