-- A demand that was open and is met lets the potential fall.
use Rattle.std.proofs.Common.{◌≡◌, ℕ, zero, suc, ◌+◌, ◌<◌, ◌≤◌, ◌++◌, ◌⊎◌, Bool, true, false, not, cond, ◌&&◌, List, [], ◌∷◌, Option, Some, None, length, get_or, map, flat_map, count_by, slice_get, sym, refl, ap, subst, inl, inr, arith}
use Rattle.std.proofs.lemmas.Bool.{and_parts}
use Rattle.std.proofs.lemmas.List.Sums.{sum_by-cons}
use Rattle.num_ends.specs.Decimal.{Decimal, origin}
use Rattle.num_ends.specs.Ends.{Interval, may_less, point_of}
use Rattle.num_ends.proofs.Members.{has_within}
use Rattle.ground_task.specs.Tasks.{TaskValue}
use Rattle.ground_task.specs.declared.raw.Change.{Change}
use Rattle.ground_task.specs.declared.raw.Change.TheVariants.{Add, Set}
use Rattle.ground_task.specs.declared.raw.Ground.{Ground}
use Rattle.box_model.specs.Boxes.{fact_in, fluent_in, may_be, LiesWithin}
use Rattle.box_model.specs.Demands.{bounds_of, constant_of, implies, meets_demand, meets_value, reaches}
use Rattle.box_model.specs.Hold.{interval_of, read_interval}
use Rattle.box_model.specs.declared.caps.Side.TheVariants.{Upper, Lower}
use Rattle.box_model.specs.declared.state_box.StateBox.{StateBox}
use Rattle.box_model.proofs.CapLemmas.{some_same}
use Rattle.box_model.proofs.Monotony.{fact_wider, fluent_wider, may_be_wider}
use Rattle.relax_plain.specs.Potential.{Demand, truth, end, value, demands_of, demands_of_change, demands_of_value, is_met, potential}
use Rattle.relax_plain.proofs.DemandLemmas.{reaches_wider}

-- ---- one of a list

abbrev pub Among : {X : Type 0} → X → List X → Type 0
Among v [] = ⊥
Among v (x ∷ xs) = (v ≡ x) ⊎ Among v xs

pub among_left : {X : Type 0} (v : X) (xs ys : List X) → Among v xs → Among v (xs ++ ys)
among_left v [] ys h = absurd h
among_left v (x ∷ xs) ys h = elim h [ inl here ↦ inl here | inr later ↦ inr (among_left v xs ys later) ]

pub among_right : {X : Type 0} (v : X) (xs ys : List X) → Among v ys → Among v (xs ++ ys)
among_right v [] ys h = h
among_right v (x ∷ xs) ys h = inr (among_right v xs ys h)

pub among_map : {X Y : Type 0} (f : X → Y) (v : X) (xs : List X) → Among v xs → Among (f v) (map f xs)
among_map f v [] h = absurd h
among_map f v (x ∷ xs) h = elim h [ inl here ↦ inl (ap f here) | inr later ↦ inr (among_map f v xs later) ]

pub among_flat : {X Y : Type 0} (f : X → List Y) (w : Y) (v : X) (xs : List X) → Among v xs → Among w (f v) → Among w (flat_map f xs)
among_flat f w v [] h k = absurd h
among_flat f w v (x ∷ xs) h k =
    elim h [
      | inl here ↦ among_left w (f x) (flat_map f xs) (subst (λ y. Among w (f y)) here k)
      | inr later ↦ among_right w (f x) (flat_map f xs) (among_flat f w v xs later k)
    ]

pub among_at : {X : Type 0} (xs : List X) (i : ℕ) (d : X) → i < length xs → Among (get_or xs i d) xs
among_at [] i d h = absurd (omega arith)
among_at (x ∷ xs) zero d h = inl refl
among_at (x ∷ xs) (suc i) d h = inr (among_at xs i d (omega arith))

pub among_got : {X : Type 0} (xs : List X) (i : ℕ) (v : X) → slice_get xs i ≡ Some v → Among v xs
among_got [] i v h = cc
among_got (x ∷ xs) zero v h = inl (sym (some_same x v h))
among_got (x ∷ xs) (suc i) v h = inr (among_got xs i v h)

-- ---- counts

count_cons : {X : Type 0} (p : X → Bool) (x : X) (xs : List X) → count_by p (x ∷ xs) ≡ cond (p x) 1 0 + count_by p xs
count_cons p x xs = sum_by-cons (λ y. cond (p y) 1 0) x xs

count_most : {X : Type 0} (p q : X → Bool) (xs : List X) → ((x : X) → p x ≡ true → q x ≡ true) → count_by (λ x. not (q x)) xs ≤ count_by (λ x. not (p x)) xs
count_most p q [] h = omega arith
count_most p q (x ∷ xs) h =
    let rest = count_most p q xs h in
    let one : cond (not (q x)) 1 0 ≤ cond (not (p x)) 1 0 = weight_most (p x) (q x) (h x) in
    omega (arith, rest, one, count_cons (λ x. not (q x)) x xs, count_cons (λ x. not (p x)) x xs)
  where
    weight_most : (u v : Bool) → (u ≡ true → v ≡ true) → cond (not v) 1 0 ≤ cond (not u) 1 0
    weight_most u true h = omega arith
    weight_most false false h = omega arith
    weight_most true false h = let no' : false ≡ true = h refl in cc

count_less : {X : Type 0} (p q : X → Bool) (xs : List X) (v : X) → Among v xs → ((x : X) → p x ≡ true → q x ≡ true) → p v ≡ false → q v ≡ true →
    count_by (λ x. not (q x)) xs < count_by (λ x. not (p x)) xs
count_less p q [] v h k f t = absurd h
count_less p q (x ∷ xs) v h k f t =
    let new = count_cons (λ x. not (q x)) x xs in
    let old = count_cons (λ x. not (p x)) x xs in
    elim h [
      | inl here ↦
          let one : cond {A = ℕ} (not (q x)) 1 0 ≡ 0 = ap (λ (b : Bool). cond {A = ℕ} (not b) 1 0) (subst (λ y. q y ≡ true) here t) in
          let two : cond {A = ℕ} (not (p x)) 1 0 ≡ 1 = ap (λ (b : Bool). cond {A = ℕ} (not b) 1 0) (subst (λ y. p y ≡ false) here f) in
          omega (arith, new, old, one, two, count_most p q xs k)
      | inr later ↦
          let one : cond (not (q x)) 1 0 ≤ cond (not (p x)) 1 0 = weight_most (p x) (q x) (k x) in
          omega (arith, new, old, one, count_less p q xs v later k f t)
    ]
  where
    weight_most : (u v : Bool) → (u ≡ true → v ≡ true) → cond (not v) 1 0 ≤ cond (not u) 1 0
    weight_most u true h = omega arith
    weight_most false false h = omega arith
    weight_most true false h = let no' : false ≡ true = h refl in cc

-- ---- demands

pub met_wider : (b c : StateBox) → LiesWithin b c → (d : Demand) → is_met b d ≡ true → is_met c d ≡ true
met_wider b c w (truth f v) h = may_be_wider (fact_in b f) (fact_in c f) v (fact_wider b c w f) h
met_wider b c w (end x side ends) h = reaches_wider side ends (fluent_in b x) (fluent_in c x) (fluent_wider b c w x) h
met_wider b c w (value x k) h = has_within (fluent_in b x) (fluent_in c x) k (fluent_wider b c w x) h

module _ (t : TaskValue) (number : ℕ) (a : Ground) (at : slice_get t.raw.actions number ≡ Some a) (b c : StateBox) (w : LiesWithin b c) where
  falls : (d : Demand) → Among d (demands_of t.places a) → is_met b d ≡ false → is_met c d ≡ true → potential t c < potential t b
  falls d of f m =
      count_less (is_met b) (is_met c) (flat_map (demands_of t.places) t.raw.actions) d
      (among_flat (demands_of t.places) d a t.raw.actions (among_got t.raw.actions number a at) of) (met_wider b c w) f m

  pub added_falls : (i : ℕ) → i < length a.adds → may_be (fact_in b (get_or a.adds i 0)) true ≡ false → may_be (fact_in c (get_or a.adds i 0)) true ≡ true → potential t c < potential t b
  added_falls i h f m =
      falls (truth (get_or a.adds i 0) true) (among_left _ (map (λ f. truth f true) a.adds) _ (among_map (λ f. truth f true) (get_or a.adds i 0) a.adds (among_at a.adds i 0 h))) f m

  pub deleted_falls : (i : ℕ) → i < length a.dels → may_be (fact_in b (get_or a.dels i 0)) false ≡ false → may_be (fact_in c (get_or a.dels i 0)) false ≡ true → potential t c < potential t b
  deleted_falls i h f m =
      falls (truth (get_or a.dels i 0) false)
      (among_right _ (map (λ f. truth f true) a.adds) _ (among_left _ (map (λ f. truth f false) a.dels) _ (among_map (λ f. truth f false) (get_or a.dels i 0) a.dels (among_at a.dels i 0 h)))) f m

  module _ (effect : ℕ × Change) (of : Among effect a.nums) where
    abbrev x : ℕ
    x = effect.0

    abbrev IsDemanded : Demand → Type 0
    IsDemanded d = Among d (demands_of_change t.places a.pre x effect.1)

    change_falls : (d : Demand) → IsDemanded d → is_met b d ≡ false → is_met c d ≡ true → potential t c < potential t b
    change_falls d k f m =
        falls d
        (among_right d (map (λ f. truth f true) a.adds) _ (among_right d (map (λ f. truth f false) a.dels) _
        (among_flat (λ effect. demands_of_change t.places a.pre effect.0 effect.1) d effect a.nums of k))) f m

    -- one of two implications fails before and not after
    either : (p q r r' s s' : Bool) → (implies p r && implies q s) ≡ false → (implies p r' && implies q s') ≡ true → ((r ≡ false) × (r' ≡ true)) ⊎ ((s ≡ false) × (s' ≡ true))
    either true q false r' s s' f m = inl (refl, (and_parts r' _ m).0)
    either true true true r' false s' f m = inr (refl, (and_parts r' _ m).1)
    either true true true r' true s' f m = cc
    either true false true r' s s' f m = cc
    either false true r r' false s' f m = inr (refl, m)
    either false true r r' true s' f m = cc
    either false false r r' s s' f m = cc

    ends_fall : (upper lower : List _) → IsDemanded (end x Upper upper) → IsDemanded (end x Lower lower) → (p q : Bool) →
        (implies p (reaches Upper upper (fluent_in b x)) && implies q (reaches Lower lower (fluent_in b x))) ≡ false →
        (implies p (reaches Upper upper (fluent_in c x)) && implies q (reaches Lower lower (fluent_in c x))) ≡ true → potential t c < potential t b
    ends_fall upper lower k l p q f m =
        elim (either p q (reaches Upper upper (fluent_in b x)) (reaches Upper upper (fluent_in c x)) (reaches Lower lower (fluent_in b x)) (reaches Lower lower (fluent_in c x)) f m) [
          | inl u ↦ change_falls (end x Upper upper) k u.0 u.1
          | inr v ↦ change_falls (end x Lower lower) l v.0 v.1
        ]

  value_falls : (effect : ℕ × Change) (of : Among effect a.nums) (o : Option Decimal) (had to : Interval) → demands_of_change t.places a.pre effect.0 effect.1 ≡ demands_of_value effect.0 o →
      meets_value o had to (fluent_in b effect.0) ≡ false → meets_value o had to (fluent_in c effect.0) ≡ true → potential t c < potential t b
  value_falls effect of (Some k) had to is f m =
      change_falls effect of (value effect.0 k) (subst (λ ds. Among (value effect.0 k) ds) (sym is) (inl refl)) f m
  value_falls effect of None had to is f m =
      ends_fall effect of [] [] (subst (λ ds. Among (end effect.0 Upper []) ds) (sym is) (inl refl)) (subst (λ ds. Among (end effect.0 Lower []) ds) (sym is) (inr (inl refl)))
      (may_less had to) (may_less to had) f m

  pub demand_falls : (x : ℕ) (change : Change) → Among (x, change) a.nums →
      meets_demand t.places b a.pre x change (fluent_in b x) ≡ false → meets_demand t.places b a.pre x change (fluent_in c x) ≡ true → potential t c < potential t b
  demand_falls x (Add e) of f m =
      ends_fall (x, Add e) of (bounds_of t.places a.pre x e Upper) (bounds_of t.places a.pre x e Lower) (inl refl) (inr (inl refl))
      (may_less (point_of origin) (interval_of t.places b e)) (may_less (interval_of t.places b e) (point_of origin)) f m
  demand_falls x (Set e) of f m =
      value_falls (x, Set e) of (constant_of e) (read_interval (get_or t.places x 0) (fluent_in b x)) (interval_of t.places b e) refl f m
