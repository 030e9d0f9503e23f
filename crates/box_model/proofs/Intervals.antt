-- The intervals of expressions, one equation for each variant; their ends' places, members and widening.
use Rattle.std.proofs.Common.{◌≡◌, ℕ, ◌+◌, ◌≤◌, ◌<◌, max, true, refl, sym, ap, ap₂, ◌∙◌, subst, inl, inr, arith, List, length, get_or}
use Rattle.std.proofs.lemmas.Bool.{and_from, cases_lt}
use Rattle.std.proofs.lemmas.List.{get_or_past}
use Rattle.num_ends.specs.Decimal.{Decimal, trimmed, sum_of, difference_of, product_of}
use Rattle.num_ends.specs.Ends.{Interval, has, is_inhabited, is_within, point_of, whole_line}
use Rattle.num_ends.specs.Arithmetic.{HasPlaces, outward_of, interval_sum, interval_difference, interval_product, mirrored_end}
use Rattle.num_ends.specs.Laws.{PlacesUpTo, BothPlaces}
use Rattle.num_ends.proofs.DecimalOrder.{most_refl}
use Rattle.num_ends.proofs.Members.{within_refl}
use Rattle.num_ends.proofs.Mirrors.{mirrored_inhabited}
use Rattle.num_ends.proofs.OutwardSteps.{outward_inhabited, sum_has, sum_inhabited}
use Rattle.num_ends.proofs.IntervalProducts.{product_has, product_inhabited, difference_has}
use Rattle.num_ends.proofs.Widening.{outward_wider, sum_wider, difference_wider}
use Rattle.num_ends.proofs.WiderProducts.{product_wider}
use Rattle.ground_task.specs.Meaning.{fluent_value, value_layer, value_of}
use Rattle.ground_task.specs.Placed.{places_layer, places_of}
use Rattle.ground_task.specs.States.{StateValue}
use Rattle.ground_task.specs.declared.raw.GExpr.{GExpr, GExpr-F, fold_out-GExpr, map-GExpr, out-GExpr}
use Rattle.ground_task.specs.declared.raw.GExpr.TheVariants as e
use Rattle.ground_task.proofs.Trees.{fold-Const, fold-Read, fold-Add, fold-Sub, fold-Mul, induct_expression}
use Rattle.box_model.specs.Boxes.{fluent_in, Contains, IsBoxOf, LiesWithin}
use Rattle.box_model.specs.Hold.{EndsHave, Ranging, combined, interval_of, ranging_layer, ranging_of, read_interval, trimmed_end}
use Rattle.box_model.specs.declared.state_box.StateBox.{StateBox}
use Rattle.ground_task.specs.Tasks.{TaskValue}
use Rattle.box_model.proofs.ReadLemmas.{AllFit, fits_anywhere, few_places, has_read, read_wider, trimmed_inhabited}
use Rattle.box_model.proofs.Operations.{sum_up_to, difference_up_to, product_up_to, moved_has, moved_ends_have}

-- ---- one equation for each variant

module _ (places : List ℕ) (b : StateBox) where
  abbrev layer : GExpr-F Ranging → Ranging
  layer = ranging_layer places b

  pub ranging_places : (x : GExpr) → (ranging_of places b x).places ≡ places_of places x
  ranging_places =
      induct_expression (λ x. (ranging_of places b x).places ≡ places_of places x)
      (λ d. ap (λ (r : Ranging). r.places) (fold-Const layer d) ∙ sym (fold-Const (places_layer places) d))
      (λ x. ap (λ (r : Ranging). r.places) (fold-Read layer x) ∙ sym (fold-Read (places_layer places) x))
      (λ c d h k. ap (λ (r : Ranging). r.places) (fold-Add layer c d) ∙ ap₂ max h k ∙ sym (fold-Add (places_layer places) c d))
      (λ c d h k. ap (λ (r : Ranging). r.places) (fold-Sub layer c d) ∙ ap₂ max h k ∙ sym (fold-Sub (places_layer places) c d))
      (λ c d h k. ap (λ (r : Ranging). r.places) (fold-Mul layer c d) ∙ ap₂ (λ m n. m + n) h k ∙ sym (fold-Mul (places_layer places) c d))

  pub interval-Const : (d : Decimal) → interval_of places b (e.Const d) ≡ outward_of (trimmed d).p (point_of (trimmed d))
  interval-Const d = ap (λ (r : Ranging). r.interval) (fold-Const layer d)

  pub interval-Read : (x : ℕ) → interval_of places b (e.Read x) ≡ read_interval (get_or places x 0) (fluent_in b x)
  interval-Read x = ap (λ (r : Ranging). r.interval) (fold-Read layer x)

  pub interval-Add : (c d : GExpr) → interval_of places b (e.Add c d) ≡ outward_of (max (places_of places c) (places_of places d)) (interval_sum (interval_of places b c) (interval_of places b d))
  interval-Add c d =
      ap (λ (r : Ranging). r.interval) (fold-Add layer c d)
      ∙ ap₂ (λ (p q : ℕ). outward_of (max p q) (interval_sum (interval_of places b c) (interval_of places b d))) (ranging_places c) (ranging_places d)

  pub interval-Sub : (c d : GExpr) → interval_of places b (e.Sub c d) ≡ outward_of (max (places_of places c) (places_of places d)) (interval_difference (interval_of places b c) (interval_of places b d))
  interval-Sub c d =
      ap (λ (r : Ranging). r.interval) (fold-Sub layer c d)
      ∙ ap₂ (λ (p q : ℕ). outward_of (max p q) (interval_difference (interval_of places b c) (interval_of places b d))) (ranging_places c) (ranging_places d)

  pub interval-Mul : (c d : GExpr) → interval_of places b (e.Mul c d) ≡ outward_of (places_of places c + places_of places d) (interval_product (interval_of places b c) (interval_of places b d))
  interval-Mul c d =
      ap (λ (r : Ranging). r.interval) (fold-Mul layer c d)
      ∙ ap₂ (λ (p q : ℕ). outward_of (p + q) (interval_product (interval_of places b c) (interval_of places b d))) (ranging_places c) (ranging_places d)

  -- the finite ends have the places of the expression
  pub ends_have : (x : GExpr) → EndsHave (places_of places x) (interval_of places b x)
  ends_have x =
      let at : EndsHave (ranging_of places b x).places (interval_of places b x) =
      subst (λ (r : Ranging). EndsHave r.places r.interval) (sym (fold_out-GExpr Ranging layer x))
      (moved_ends_have _ (combined b (map-GExpr Ranging Interval (λ r. r.interval) (map-GExpr GExpr Ranging (ranging_of places b) (out-GExpr x))))) in
      subst (λ (q : ℕ). EndsHave q (interval_of places b x)) (ranging_places x) at

pub places-Add : (places : List ℕ) (c d : GExpr) → places_of places (e.Add c d) ≡ max (places_of places c) (places_of places d)
places-Add places c d = fold-Add (places_layer places) c d

pub places-Sub : (places : List ℕ) (c d : GExpr) → places_of places (e.Sub c d) ≡ max (places_of places c) (places_of places d)
places-Sub places c d = fold-Sub (places_layer places) c d

pub places-Mul : (places : List ℕ) (c d : GExpr) → places_of places (e.Mul c d) ≡ places_of places c + places_of places d
places-Mul places c d = fold-Mul (places_layer places) c d

point_up_to : (d : Decimal) → PlacesUpTo d.p (point_of d)
point_up_to d = record { lower = omega arith; upper = omega arith }

-- ---- members

module _ (places : List ℕ) (b : StateBox) (s : StateValue) (fits : AllFit places b) (inside : (x : ℕ) → has (fluent_in b x) (fluent_value places s x) ≡ true) where
  abbrev values : GExpr-F Decimal → Decimal
  values = value_layer (fluent_value places s)

  -- the value of an expression lies in its interval
  pub value_within : (x : GExpr) → has (interval_of places b x) (value_of places s x) ≡ true
  value_within =
      induct_expression (λ x. has (interval_of places b x) (value_of places s x) ≡ true)
      (λ d. ap₂ has (interval-Const places b d) (fold-Const values d)
      ∙ moved_has (trimmed d).p (point_of (trimmed d)) (trimmed d) (point_up_to (trimmed d)) (and_from _ _ (most_refl (trimmed d)) (most_refl (trimmed d))))
      (λ x. ap₂ has (interval-Read places b x) (fold-Read values x)
      ∙ has_read (get_or places x 0) (fluent_in b x) (fluent_value places s x) (fits_anywhere places b fits x) (inside x))
      (λ c d h k. ap₂ has (interval-Add places b c d) (fold-Add values c d)
      ∙ moved_has _ _ _ (sum_up_to (places_of places c) (places_of places d) (interval_of places b c) (interval_of places b d) (ends_have places b c) (ends_have places b d))
      (sum_has (interval_of places b c) (interval_of places b d) (value_of places s c) (value_of places s d) h k))
      (λ c d h k. ap₂ has (interval-Sub places b c d) (fold-Sub values c d)
      ∙ moved_has _ _ _ (difference_up_to (places_of places c) (places_of places d) (interval_of places b c) (interval_of places b d) (ends_have places b c) (ends_have places b d))
      (difference_has (interval_of places b c) (interval_of places b d) (value_of places s c) (value_of places s d) h k))
      (λ c d h k. ap₂ has (interval-Mul places b c d) (fold-Mul values c d)
      ∙ moved_has _ _ _ (product_up_to (places_of places c) (places_of places d) (interval_of places b c) (interval_of places b d) (ends_have places b c) (ends_have places b d))
      (product_has (interval_of places b c) (interval_of places b d) (value_of places s c) (value_of places s d) h k))

-- ---- widening

-- no interval of the box is empty
abbrev pub AllInhabited : StateBox → Type 0
AllInhabited b = (x : ℕ) → x < length b.fluents → is_inhabited (fluent_in b x).0 (fluent_in b x).1 ≡ true

pub inhabited_anywhere : (b : StateBox) → AllInhabited b → (x : ℕ) → is_inhabited (fluent_in b x).0 (fluent_in b x).1 ≡ true
inhabited_anywhere b all x =
    elim (cases_lt x (length b.fluents)) [
      | inl h ↦ all x h
      | inr h ↦ rw (get_or_past b.fluents x whole_line h) refl
    ]

moved_inhabited : (q : ℕ) (i : Interval) → PlacesUpTo q i → is_inhabited i.0 i.1 ≡ true → is_inhabited (outward_of q i).0 (outward_of q i).1 ≡ true
moved_inhabited q i few h = outward_inhabited q i few.lower few.upper h

inhabited_by : (i j : Interval) → i ≡ j → is_inhabited j.0 j.1 ≡ true → is_inhabited i.0 i.1 ≡ true
inhabited_by i j same h = subst (λ (k : Interval). is_inhabited k.0 k.1 ≡ true) (sym same) h

difference_inhabited : (i j : Interval) → is_inhabited i.0 i.1 ≡ true → is_inhabited j.0 j.1 ≡ true → is_inhabited (interval_difference i j).0 (interval_difference i j).1 ≡ true
difference_inhabited i j h k = sum_inhabited i (mirrored_end j.1, mirrored_end j.0) h (mirrored_inhabited j.0 j.1 ∙ k)

module _ (places : List ℕ) (b : StateBox) (fits : AllFit places b) (all : AllInhabited b) where
  abbrev IsInhabitedAt : GExpr → Type 0
  IsInhabitedAt x = is_inhabited (interval_of places b x).0 (interval_of places b x).1 ≡ true

  pub interval_inhabited : (x : GExpr) → IsInhabitedAt x
  interval_inhabited =
      induct_expression IsInhabitedAt
      (λ d. inhabited_by _ _ (interval-Const places b d) (moved_inhabited (trimmed d).p (point_of (trimmed d)) (point_up_to (trimmed d)) (most_refl (trimmed d))))
      (λ x. inhabited_by _ _ (interval-Read places b x)
      (let fit = fits_anywhere places b fits x in
      outward_inhabited (get_or places x 0) (trimmed_end (fluent_in b x).0, trimmed_end (fluent_in b x).1)
      (few_places (get_or places x 0) (fluent_in b x).0 fit.0) (few_places (get_or places x 0) (fluent_in b x).1 fit.1)
      (trimmed_inhabited (fluent_in b x) (inhabited_anywhere b all x))))
      (λ c d h k. inhabited_by _ _ (interval-Add places b c d)
      (moved_inhabited _ _ (sum_up_to (places_of places c) (places_of places d) (interval_of places b c) (interval_of places b d) (ends_have places b c) (ends_have places b d))
      (sum_inhabited (interval_of places b c) (interval_of places b d) h k)))
      (λ c d h k. inhabited_by _ _ (interval-Sub places b c d)
      (moved_inhabited _ _ (difference_up_to (places_of places c) (places_of places d) (interval_of places b c) (interval_of places b d) (ends_have places b c) (ends_have places b d))
      (difference_inhabited (interval_of places b c) (interval_of places b d) h k)))
      (λ c d h k. inhabited_by _ _ (interval-Mul places b c d)
      (moved_inhabited _ _ (product_up_to (places_of places c) (places_of places d) (interval_of places b c) (interval_of places b d) (ends_have places b c) (ends_have places b d))
      (product_inhabited (interval_of places b c) (interval_of places b d) h k)))

module _ (places : List ℕ) (b c : StateBox) (fits : AllFit places b) (fits' : AllFit places c) (all : AllInhabited b) (wider : (x : ℕ) → is_within (fluent_in b x) (fluent_in c x) ≡ true) where
  both : (x : GExpr) → BothPlaces (places_of places x) (interval_of places b x) (interval_of places c x)
  both x =
      let inner = ends_have places b x in
      let outer = ends_have places c x in
      record { inner_lower = inner.lower; inner_upper = inner.upper; outer_lower = outer.lower; outer_upper = outer.upper }

  some : (x : GExpr) → is_inhabited (interval_of places b x).0 (interval_of places b x).1 ≡ true
  some = interval_inhabited places b fits all

  pub range_wider : (x : GExpr) → is_within (interval_of places b x) (interval_of places c x) ≡ true
  range_wider =
      induct_expression (λ x. is_within (interval_of places b x) (interval_of places c x) ≡ true)
      (λ d. ap₂ is_within (interval-Const places b d) (interval-Const places c d) ∙ within_refl (outward_of (trimmed d).p (point_of (trimmed d))))
      (λ x. ap₂ is_within (interval-Read places b x) (interval-Read places c x)
      ∙ read_wider (get_or places x 0) (fluent_in b x) (fluent_in c x) (fits_anywhere places b fits x) (fits_anywhere places c fits' x) (wider x))
      (λ d x h k. ap₂ is_within (interval-Add places b d x) (interval-Add places c d x)
      ∙ outward_wider _ _ _
      (sum_up_to (places_of places d) (places_of places x) (interval_of places b d) (interval_of places b x) (ends_have places b d) (ends_have places b x))
      (sum_up_to (places_of places d) (places_of places x) (interval_of places c d) (interval_of places c x) (ends_have places c d) (ends_have places c x))
      (sum_wider (places_of places d) (places_of places x) _ _ _ _ (both d) (both x) (some d) (some x) h k))
      (λ d x h k. ap₂ is_within (interval-Sub places b d x) (interval-Sub places c d x)
      ∙ outward_wider _ _ _
      (difference_up_to (places_of places d) (places_of places x) (interval_of places b d) (interval_of places b x) (ends_have places b d) (ends_have places b x))
      (difference_up_to (places_of places d) (places_of places x) (interval_of places c d) (interval_of places c x) (ends_have places c d) (ends_have places c x))
      (difference_wider (places_of places d) (places_of places x) _ _ _ _ (both d) (both x) (some d) (some x) h k))
      (λ d x h k. ap₂ is_within (interval-Mul places b d x) (interval-Mul places c d x)
      ∙ outward_wider _ _ _
      (product_up_to (places_of places d) (places_of places x) (interval_of places b d) (interval_of places b x) (ends_have places b d) (ends_have places b x))
      (product_up_to (places_of places d) (places_of places x) (interval_of places c d) (interval_of places c x) (ends_have places c d) (ends_have places c x))
      (product_wider (places_of places d) (places_of places x) _ _ _ _ (both d) (both x) (some d) (some x) h k))

-- ---- as the code has them

module _ (places : List ℕ) (b : StateBox) (c d x : GExpr) (i j r : Interval) (p q : ℕ) (i_is : i ≡ interval_of places b c) (p_is : p ≡ places_of places c) (j_is : j ≡ interval_of places b d) (q_is : q ≡ places_of places d) where
  pub added : x ≡ e.Add c d → r ≡ outward_of (max p q) (interval_sum i j) → r ≡ interval_of places b x
  added is r_is = r_is ∙ rw (i_is, p_is, j_is, q_is) (sym (ap (interval_of places b) is ∙ interval-Add places b c d))

  pub subtracted : x ≡ e.Sub c d → r ≡ outward_of (max p q) (interval_difference i j) → r ≡ interval_of places b x
  subtracted is r_is = r_is ∙ rw (i_is, p_is, j_is, q_is) (sym (ap (interval_of places b) is ∙ interval-Sub places b c d))

  pub multiplied : x ≡ e.Mul c d → r ≡ outward_of (p + q) (interval_product i j) → r ≡ interval_of places b x
  multiplied is r_is = r_is ∙ rw (i_is, p_is, j_is, q_is) (sym (ap (interval_of places b) is ∙ interval-Mul places b c d))

pub ends_by : (places : List ℕ) (b : StateBox) (x : GExpr) (i : Interval) (p : ℕ) → i ≡ interval_of places b x → p ≡ places_of places x → EndsHave p i
ends_by places b x i p i_is p_is = rw (i_is, p_is) (ends_have places b x)
