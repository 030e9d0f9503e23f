-- What an action demands is the same in boxes that are the same in what it reads.
use Rattle.std.proofs.Common.{◌≡◌, ℕ, max, ◌+◌, Bool, true, ◌&&◌, ◌||◌, List, [], ◌∷◌, All, get_or, sym, refl, ap, ap₂, ◌∙◌}
use Rattle.std.specs.List.{list_all, list_any}
use Rattle.std.proofs.lemmas.Bool.{eq-eqb, or_left, or_right}
use Rattle.std.proofs.lemmas.List.Elements.{All-head, All-tail}
use Rattle.num_ends.specs.Ends.{Interval}
use Rattle.num_ends.specs.Arithmetic.{interval_difference, interval_product, interval_sum, outward_of}
use Rattle.ground_task.proofs.Trees.{fold-Add, fold-And, fold-Cmp, fold-Fact, fold-False, fold-Mul, fold-Or, fold-Read, fold-Sub, fold-True, induct_condition, induct_expression, list_any-map}
use Rattle.ground_task.specs.declared.raw.Change.{Change}
use Rattle.ground_task.specs.declared.raw.Change.TheVariants.{Add, Set}
use Rattle.ground_task.specs.declared.raw.Ground.{Ground}
use Rattle.ground_task.specs.declared.raw.GExpr.{GExpr}
use Rattle.ground_task.specs.declared.raw.GCond.{GCond}
use Rattle.ground_task.specs.declared.raw.GCond.TheVariants as c
use Rattle.ground_task.specs.Placed.{places_of}
use Rattle.box_model.specs.Boxes.{fact_in, fluent_in, may_be}
use Rattle.box_model.specs.Demands.{bounds_of, constant_of, meets_demand, meets_growth, meets_value}
use Rattle.box_model.specs.Hold.{interval_of, may_hold, may_hold_layer, may_stand, read_interval}
use Rattle.box_model.specs.declared.state_box.StateBox.{StateBox}
use Rattle.box_model.proofs.Intervals.{interval-Add, interval-Const, interval-Mul, interval-Read, interval-Sub}
use Rattle.box_model.proofs.Trees.{may_hold-And, may_hold-Or}
use Rattle.relax_plain.specs.Reads.{asks, asks_layer, compares, compares_layer, is_used, reads, reads_layer}
use Rattle.relax_plain.specs.Spread.{ReadsTheSame}

pub asks-And : (f : ℕ) (cs : List GCond) → asks f (c.And cs) ≡ list_any (asks f) cs
asks-And f cs = fold-And (asks_layer f) cs ∙ list_any-map (asks f) cs

pub asks-Or : (f : ℕ) (cs : List GCond) → asks f (c.Or cs) ≡ list_any (asks f) cs
asks-Or f cs = fold-Or (asks_layer f) cs ∙ list_any-map (asks f) cs

pub compares-And : (x : ℕ) (cs : List GCond) → compares x (c.And cs) ≡ list_any (compares x) cs
compares-And x cs = fold-And (compares_layer x) cs ∙ list_any-map (compares x) cs

pub compares-Or : (x : ℕ) (cs : List GCond) → compares x (c.Or cs) ≡ list_any (compares x) cs
compares-Or x cs = fold-Or (compares_layer x) cs ∙ list_any-map (compares x) cs

module _ (places : List ℕ) (b d : StateBox) where
  -- ---- expressions

  abbrev SameFluents : (ℕ → Bool) → Type 0
  SameFluents test = (x : ℕ) → test x ≡ true → fluent_in d x ≡ fluent_in b x

  abbrev SameFacts : (ℕ → Bool) → Type 0
  SameFacts test = (f : ℕ) → test f ≡ true → fact_in d f ≡ fact_in b f

  abbrev IsSame : GExpr → Type 0
  IsSame x = SameFluents (λ y. reads y x) → interval_of places d x ≡ interval_of places b x

  pub same_interval : (x : GExpr) → IsSame x
  same_interval =
      induct_expression IsSame
      (λ k same. interval-Const places d k ∙ sym (interval-Const places b k))
      (λ x same. interval-Read places d x ∙ ap (read_interval (get_or places x 0)) (same x (fold-Read (reads_layer x) x ∙ eq-eqb x x refl)) ∙ sym (interval-Read places b x))
      (λ x y h k same. interval-Add places d x y
      ∙ ap₂ (λ (i j : Interval). outward_of (max (places_of places x) (places_of places y)) (interval_sum i j))
      (h (λ z r. same z (fold-Add (reads_layer z) x y ∙ or_left _ _ r))) (k (λ z r. same z (fold-Add (reads_layer z) x y ∙ or_right _ _ r)))
      ∙ sym (interval-Add places b x y))
      (λ x y h k same. interval-Sub places d x y
      ∙ ap₂ (λ (i j : Interval). outward_of (max (places_of places x) (places_of places y)) (interval_difference i j))
      (h (λ z r. same z (fold-Sub (reads_layer z) x y ∙ or_left _ _ r))) (k (λ z r. same z (fold-Sub (reads_layer z) x y ∙ or_right _ _ r)))
      ∙ sym (interval-Sub places b x y))
      (λ x y h k same. interval-Mul places d x y
      ∙ ap₂ (λ (i j : Interval). outward_of (places_of places x + places_of places y) (interval_product i j))
      (h (λ z r. same z (fold-Mul (reads_layer z) x y ∙ or_left _ _ r))) (k (λ z r. same z (fold-Mul (reads_layer z) x y ∙ or_right _ _ r)))
      ∙ sym (interval-Mul places b x y))

  -- ---- conditions

  abbrev IsSameCondition : GCond → Type 0
  IsSameCondition g = SameFacts (λ f. asks f g) → SameFluents (λ x. compares x g) → may_hold places d g ≡ may_hold places b g

  all_same : (gs : List GCond) → All IsSameCondition gs → SameFacts (λ f. list_any (asks f) gs) → SameFluents (λ x. list_any (compares x) gs) →
      list_all (may_hold places d) gs ≡ list_all (may_hold places b) gs
  all_same [] each facts fluents = refl
  all_same (g ∷ gs) each facts fluents =
      ap₂ (λ (u v : Bool). u && v)
      (All-head IsSameCondition g gs each (λ f h. facts f (or_left _ _ h)) (λ x h. fluents x (or_left _ _ h)))
      (all_same gs (All-tail IsSameCondition g gs each) (λ f h. facts f (or_right _ _ h)) (λ x h. fluents x (or_right _ _ h)))

  any_same : (gs : List GCond) → All IsSameCondition gs → SameFacts (λ f. list_any (asks f) gs) → SameFluents (λ x. list_any (compares x) gs) →
      list_any (may_hold places d) gs ≡ list_any (may_hold places b) gs
  any_same [] each facts fluents = refl
  any_same (g ∷ gs) each facts fluents =
      ap₂ (λ (u v : Bool). u || v)
      (All-head IsSameCondition g gs each (λ f h. facts f (or_left _ _ h)) (λ x h. fluents x (or_left _ _ h)))
      (any_same gs (All-tail IsSameCondition g gs each) (λ f h. facts f (or_right _ _ h)) (λ x h. fluents x (or_right _ _ h)))

  pub same_condition : (g : GCond) → IsSameCondition g
  same_condition =
      induct_condition IsSameCondition
      (λ facts fluents. fold-True (may_hold_layer places d) ∙ sym (fold-True (may_hold_layer places b)))
      (λ facts fluents. fold-False (may_hold_layer places d) ∙ sym (fold-False (may_hold_layer places b)))
      (λ f truth facts fluents. fold-Fact (may_hold_layer places d) f truth
      ∙ ap (λ m. may_be m truth) (facts f (fold-Fact (asks_layer f) f truth ∙ eq-eqb f f refl))
      ∙ sym (fold-Fact (may_hold_layer places b) f truth))
      (λ r x y facts fluents. fold-Cmp (may_hold_layer places d) r x y
      ∙ ap₂ (may_stand r)
      (same_interval x (λ z h. fluents z (fold-Cmp (compares_layer z) r x y ∙ or_left _ _ h)))
      (same_interval y (λ z h. fluents z (fold-Cmp (compares_layer z) r x y ∙ or_right _ _ h)))
      ∙ sym (fold-Cmp (may_hold_layer places b) r x y))
      (λ gs each facts fluents. may_hold-And places d gs
      ∙ all_same gs each (λ f h. facts f (asks-And f gs ∙ h)) (λ x h. fluents x (compares-And x gs ∙ h)) ∙ sym (may_hold-And places b gs))
      (λ gs each facts fluents. may_hold-Or places d gs
      ∙ any_same gs each (λ f h. facts f (asks-Or f gs ∙ h)) (λ x h. fluents x (compares-Or x gs ∙ h)) ∙ sym (may_hold-Or places b gs))

  -- ---- actions

  pub same_demand : (pre : GCond) (x : ℕ) (change : Change) (i : Interval) → SameFluents (λ y. is_used y (x, change)) →
      meets_demand places d pre x change i ≡ meets_demand places b pre x change i
  same_demand pre x (Add e) i same = ap (λ (by : Interval). meets_growth (bounds_of places pre x e) by i) (same_interval e same)
  same_demand pre x (Set e) i same =
      ap₂ (λ (had to : Interval). meets_value (constant_of e) had to i)
      (ap (read_interval (get_or places x 0)) (same x (or_left _ _ (eq-eqb x x refl)))) (same_interval e (λ y h. same y (or_right _ _ h)))

  pub same_precondition : (a : Ground) → ReadsTheSame a b d → may_hold places d a.pre ≡ may_hold places b a.pre
  same_precondition a same = same_condition a.pre same.facts (λ x h. same.fluents x (or_left _ _ h))
