-- The cap of a change lets in the changed value, since the precondition held before it.
use Rattle.std.proofs.Common.{◌≡◌, ℕ, ◌^◌, ◌<◌, ◌≤◌, ◌++◌, Bool, true, false, cond as choose, ◌&&◌, ◌⊎◌, ℤ, ◌+ℤ◌, List, [], ◌∷◌, Option, Some, None, map, get_or, length, take, ◌+◌, add-one, sym, refl, ap, ◌∙◌, subst, inl, inr, leb-true, eqb-true, arith, filter_map, option_and_then, nat_le, unsigned_abs, zero, suc, length-append, All, MatchOption, slice_get}
use Rattle.std.specs.List.{list_all, list_any, IsAmong}
use Rattle.std.proofs.lemmas.Bool.{and_parts, and_from, or_cases, or_left, or_right, cases_Bool, both_ways, lt-ltb, ltb-true, le-leb}
use Rattle.std.proofs.lemmas.List.{get_or_append_left}
use Rattle.std.proofs.Math.Seq.{get_or-append_seam}
use Rattle.std.proofs.lemmas.List.Elements.{All-append, All-cons, All-nil, All-tail}
use Rattle.std.proofs.lemmas.List.Folds.{list_all-map}
use Rattle.num_ends.specs.Decimal.{Decimal, InRange, number_at, trimmed, common_places, sum_of}
use Rattle.num_ends.specs.Range.{in_range}
use Rattle.num_ends.specs.Ends.{Interval, is_above, is_below, lower_covers, upper_covers}
use Rattle.num_ends.specs.declared.ends.End.{End}
use Rattle.num_ends.specs.declared.ends.End.TheVariants.{NegInf, Excl, Incl, PosInf}
use Rattle.num_ends.proofs.Members.{lower_covers_refl, upper_covers_refl, lower_covers_trans, upper_covers_trans, lower_covers_total, upper_covers_total}
use Rattle.ground_task.specs.States.{StateValue}
use Rattle.ground_task.specs.Meaning.{fact_value, fluent_value, value_layer, value_of, stands, holds_layer, holds}
use Rattle.ground_task.specs.declared.raw.Rel.{Rel}
use Rattle.ground_task.specs.declared.raw.Rel.TheVariants.{Less, LessEqual, Equal, GreaterEqual, Greater}
use Rattle.ground_task.specs.declared.raw.GExpr.{GExpr, GExpr-F, out-GExpr, fold_out-GExpr, map-GExpr}
use Rattle.ground_task.specs.declared.raw.GExpr.TheOpen as expr
use Rattle.ground_task.specs.declared.raw.GCond.{GCond, GCond-F, out-GCond, fold_out-GCond, map-GCond}
use Rattle.ground_task.specs.declared.raw.GCond.TheOpen as cond
use Rattle.ground_task.specs.Ranged.{conjuncts_layer, top_conjuncts}
use Rattle.box_model.specs.declared.caps.Side.{Side}
use Rattle.box_model.specs.declared.caps.Side.TheVariants.{Upper, Lower}
use Rattle.box_model.specs.Demands.{constant_layer, constant_of, reads_layer, reads, exchanged, end_by, end_on, moved_bound, bound_end, bounds_of, moved_end, moved_end_layer, moved_ends, covers, infinity, is_finite, reaches}
use Rattle.box_model.specs.Boxes.{IsEndFor}
use Rattle.box_model.specs.Caps.{growth_of, side_of, IsCap, IsEffectCap, IsTightest}
use Rattle.ground_task.specs.declared.raw.Change.{Change}
use Rattle.ground_task.specs.declared.raw.Change.TheVariants.{Add, Set}
use Rattle.ground_task.specs.declared.raw.Ground.{Ground}
use Rattle.ground_task.specs.Tasks.{TaskValue}
use Rattle.ground_task.specs.Valid.{right_side}
use Rattle.num_ends.proofs.DecimalOrder.{same_is_most, same_back}
use Rattle.box_model.proofs.Numbers.{at_places, number_same, trimmed_places, trimmed_range, less_shifted, most_shifted, stands_exchanged}

-- the end of this side lets a decimal in
abbrev pub lets_in : Side → End → Decimal → Bool
lets_in Upper e d = is_below e d
lets_in Lower e d = is_above e d

pub some_same : {A : Type 0} (x y : A) → Some x ≡ Some y → x ≡ y
some_same x y e = cc

pub option_cases : {A : Type 0} (o : Option A) → (o ≡ None) ⊎ ((x : A) × (o ≡ Some x))
option_cases None = inl refl
option_cases (Some x) = inr (x, refl)

-- ---- a bound moved by g lets in the value moved by g

module _ (q : ℕ) (a k : Decimal) (g : ℤ) (few : a.p ≤ q) (few' : k.p ≤ q) where
  abbrev pub moved_value : Decimal
  moved_value = at_places q (number_at q a +ℤ g)

  abbrev pub moved_limit : Decimal
  moved_limit = at_places q (number_at q k +ℤ g)

  at_end : (side : Side) (e f : End) → Some e ≡ Some f → lets_in side e moved_value ≡ true → lets_in side f moved_value ≡ true
  at_end side e f s h = subst (λ (o : End). lets_in side o moved_value ≡ true) (some_same e f s) h

  pub end_by_lets_in : (side : Side) (r : Rel) (f : End) → stands r a k ≡ true → end_by side r moved_limit ≡ Some f → lets_in side f moved_value ≡ true
  end_by_lets_in Upper Less f h e = at_end Upper (Excl moved_limit) f e (less_shifted q a k g few few' h)
  end_by_lets_in Upper LessEqual f h e = at_end Upper (Incl moved_limit) f e (most_shifted q a k g few few' h)
  end_by_lets_in Upper Equal f h e = at_end Upper (Incl moved_limit) f e (most_shifted q a k g few few' (same_is_most a k h))
  end_by_lets_in Upper GreaterEqual f h e = cc
  end_by_lets_in Upper Greater f h e = cc
  end_by_lets_in Lower Less f h e = cc
  end_by_lets_in Lower LessEqual f h e = cc
  end_by_lets_in Lower Equal f h e = at_end Lower (Incl moved_limit) f e (most_shifted q k a g few' few (same_is_most k a (same_back a k h)))
  end_by_lets_in Lower GreaterEqual f h e = at_end Lower (Incl moved_limit) f e (most_shifted q k a g few' few h)
  end_by_lets_in Lower Greater f h e = at_end Lower (Excl moved_limit) f e (less_shifted q k a g few' few h)

-- where c has at most q places, as a has
sum_here : (q : ℕ) (a c : Decimal) → a.p ≡ q → c.p ≤ q → sum_of a c ≡ at_places q (number_at q a +ℤ number_at q c)
sum_here q a c few few' =
    let most : common_places a c ≡ q = omega arith in
    ap (λ (m : ℕ). at_places m (number_at m a +ℤ number_at m c)) most

bound_lets_in : (q : ℕ) (a k c : Decimal) → a.p ≡ q → (side : Side) (r : Rel) (f : End) → stands r a (trimmed k) ≡ true →
    option_and_then (end_by side r) (moved_bound q c k) ≡ Some f → lets_in side f (sum_of a (trimmed c)) ≡ true
bound_lets_in q a k c few side r f h e =
    let t = trimmed k in
    let moved = number_at q t +ℤ number_at q (trimmed c) in
    elim (cases_Bool (nat_le t.p q && nat_le (trimmed c).p q && in_range (number_at q t) && in_range moved)) [
      | inl good ↦
          let both = and_parts (nat_le t.p q) _ (and_parts _ _ (and_parts _ _ good).0).0 in
          let within : t.p ≤ q = leb-true t.p q both.0 in
          let within' : (trimmed c).p ≤ q = leb-true (trimmed c).p q both.1 in
          let at : end_by side r (at_places q moved) ≡ Some f =
          subst (λ (v : Bool). option_and_then (end_by side r) (choose v (Some (at_places q moved)) None) ≡ Some f) good e in
          subst (λ (d : Decimal). lets_in side f d ≡ true) (sym (sum_here q a (trimmed c) few within'))
          (end_by_lets_in q a t (number_at q (trimmed c)) (omega arith) within side r f h at)
      | inr bad ↦
          let none : None ≡ Some f = subst (λ (v : Bool). option_and_then (end_by side r) (choose v (Some (at_places q moved)) None) ≡ Some f) bad e in
          cc
    ]

-- ---- the members of an outermost conjunction

-- a test that an `and` passes where its members do
pub conjuncts_pass : (layer : GCond-F Bool → Bool) (f : GCond → Bool) → ((c : GCond) → f c ≡ layer (map-GCond GCond Bool f (out-GCond c))) →
    ((vs : List Bool) → layer (cond.And vs) ≡ list_all (λ v. v) vs) → (c : GCond) → f c ≡ true → list_all f (top_conjuncts c) ≡ true
conjuncts_pass layer f here conj c h =
    let one : list_all f (c ∷ []) ≡ true = and_from (f c) true h refl in
    let at : (o : GCond-F GCond) → layer (map-GCond GCond Bool f o) ≡ true → list_all f (conjuncts_layer c o) ≡ true =
    λ (o : GCond-F GCond). elim o as (λ o. layer (map-GCond GCond Bool f o) ≡ true → list_all f (conjuncts_layer c o) ≡ true) [
      | cond.True ↦ λ k. one
      | cond.False ↦ λ k. one
      | cond.Fact g truth ↦ λ k. one
      | cond.Cmp r a b ↦ λ k. one
      | cond.And cs ↦ λ k. sym (list_all-map (λ v. v) f cs) ∙ sym (conj (map f cs)) ∙ k
      | cond.Or cs ↦ λ k. one
    ] in
    at (out-GCond c) (sym (here c) ∙ h)

-- ---- the ends that bounds give

module _ (places : List ℕ) (s : StateValue) where
  abbrev values : GExpr-F Decimal → Decimal
  values = value_layer (fluent_value places s)

  pub constant_value : (e : GExpr) (c : Decimal) → constant_of e ≡ Some c → value_of places s e ≡ trimmed c
  constant_value e c h =
      let at : (o : GExpr-F GExpr) → constant_layer o ≡ Some c → values (map-GExpr GExpr Decimal (value_of places s) o) ≡ trimmed c =
      λ (o : GExpr-F GExpr). elim o as (λ o. constant_layer o ≡ Some c → values (map-GExpr GExpr Decimal (value_of places s) o) ≡ trimmed c) [
        | expr.Const d ↦ λ k. ap trimmed (some_same d c k)
        | expr.Read x ↦ λ (k : None ≡ Some c). cc
        | expr.Add a b ↦ λ (k : None ≡ Some c). cc
        | expr.Sub a b ↦ λ (k : None ≡ Some c). cc
        | expr.Mul a b ↦ λ (k : None ≡ Some c). cc
      ] in
      fold_out-GExpr Decimal values e ∙ at (out-GExpr e) h

  reads_value : (x : ℕ) (e : GExpr) → reads x e ≡ true → value_of places s e ≡ fluent_value places s x
  reads_value x e h =
      let at : (o : GExpr-F GExpr) → reads_layer x o ≡ true → values (map-GExpr GExpr Decimal (value_of places s) o) ≡ fluent_value places s x =
      λ (o : GExpr-F GExpr). elim o as (λ o. reads_layer x o ≡ true → values (map-GExpr GExpr Decimal (value_of places s) o) ≡ fluent_value places s x) [
        | expr.Const d ↦ λ (k : false ≡ true). cc
        | expr.Read y ↦ λ k. ap (fluent_value places s) (sym (eqb-true x y k))
        | expr.Add a b ↦ λ (k : false ≡ true). cc
        | expr.Sub a b ↦ λ (k : false ≡ true). cc
        | expr.Mul a b ↦ λ (k : false ≡ true). cc
      ] in
      fold_out-GExpr Decimal values e ∙ at (out-GExpr e) h

  module _ (side : Side) (x : ℕ) (c : Decimal) where
    abbrev q : ℕ
    q = get_or places x 0

    abbrev pub grown_value : Decimal
    grown_value = sum_of (fluent_value places s x) (trimmed c)

    compared : (r : Rel) (a b : GExpr) (f : End) → reads x a ≡ true → stands r (value_of places s a) (value_of places s b) ≡ true →
        bound_end side q r c (constant_of b) ≡ Some f → lets_in side f grown_value ≡ true
    compared r a b f h k e =
        elim (option_cases (constant_of b)) [
          | inl none ↦
              let n : None ≡ Some f = subst (λ (o : Option Decimal). bound_end side q r c o ≡ Some f) none e in
              cc
          | inr some ↦
              bound_lets_in q (fluent_value places s x) some.0 c refl side r f
              (subst (λ (d : Decimal). stands r d (trimmed some.0) ≡ true) (reads_value x a h)
              (subst (λ (d : Decimal). stands r (value_of places s a) d ≡ true) (constant_value b some.0 some.1) k))
              (subst (λ (o : Option Decimal). bound_end side q r c o ≡ Some f) some.1 e)
        ]

    comparison : (r : Rel) (a b : GExpr) (f : End) → stands r (value_of places s a) (value_of places s b) ≡ true →
        moved_end_layer side q x c (cond.Cmp r a b) ≡ Some f → lets_in side f grown_value ≡ true
    comparison r a b f h e =
        elim (cases_Bool (reads x a)) [
          | inl left ↦
              compared r a b f left h
              (subst (λ (v : Bool). choose v (bound_end side q r c (constant_of b)) (choose (reads x b) (bound_end side q (exchanged r) c (constant_of a)) None) ≡ Some f) left e)
          | inr other ↦
              let rest : choose (reads x b) (bound_end side q (exchanged r) c (constant_of a)) None ≡ Some f =
              subst (λ (v : Bool). choose v (bound_end side q r c (constant_of b)) (choose (reads x b) (bound_end side q (exchanged r) c (constant_of a)) None) ≡ Some f) other e in
              elim (cases_Bool (reads x b)) [
                | inl right ↦
                    compared (exchanged r) b a f right (stands_exchanged r (value_of places s a) (value_of places s b) h)
                    (subst (λ (v : Bool). choose v (bound_end side q (exchanged r) c (constant_of a)) None ≡ Some f) right rest)
                | inr neither ↦
                    let n : None ≡ Some f = subst (λ (v : Bool). choose v (bound_end side q (exchanged r) c (constant_of a)) None ≡ Some f) neither rest in
                    cc
              ]
        ]

    abbrev truths : GCond-F Bool → Bool
    truths = holds_layer (fact_value s) (fluent_value places s)

    conjunct : (o : GCond-F GCond) (f : End) → truths (map-GCond GCond Bool (holds places s) o) ≡ true → moved_end_layer side q x c o ≡ Some f → lets_in side f grown_value ≡ true
    conjunct cond.True f h e = cc
    conjunct cond.False f h e = cc
    conjunct (cond.Fact g truth) f h e = cc
    conjunct (cond.Cmp r a b) f h e = comparison r a b f h e
    conjunct (cond.And cs) f h e = cc
    conjunct (cond.Or cs) f h e = cc

    all_ends : (gs : List GCond) → list_all (holds places s) gs ≡ true → list_all (λ f. lets_in side f grown_value) (filter_map (moved_end side q x c) gs) ≡ true
    all_ends [] h = refl
    all_ends (g ∷ gs) h =
        let parts = and_parts (holds places s g) _ h in
        let at = sym (fold_out-GCond Bool truths g) ∙ parts.0 in
        elim (option_cases (moved_end side q x c g)) [
          | inl none ↦ rw none (all_ends gs parts.1)
          | inr some ↦ rw some.1 (and_from _ _ (conjunct (out-GCond g) some.0 at some.1) (all_ends gs parts.1))
        ]

    -- the moved ends let in the changed value, since the precondition held before
    pub ends_let_in : (pre : GCond) → holds places s pre ≡ true → list_all (λ f. lets_in side f grown_value) (moved_ends side q x (Some c) pre) ≡ true
    ends_let_in pre h =
        all_ends (top_conjuncts pre) (conjuncts_pass truths (holds places s) (fold_out-GCond Bool truths) (λ vs. refl) pre h)

-- ---- a cap is an end of its fluent

abbrev fits : ℕ → End → Bool
fits q NegInf = false
fits q (Excl d) = nat_le (trimmed d).p q && in_range (trimmed d).n
fits q (Incl d) = nat_le (trimmed d).p q && in_range (trimmed d).n
fits q PosInf = false

fits_number : (q : ℕ) (d : Decimal) → (nat_le (trimmed d).p q && in_range (trimmed d).n) ≡ true → ((trimmed d).p ≤ q) × InRange (trimmed d).n
fits_number q d h =
    let parts = and_parts (nat_le (trimmed d).p q) _ h in
    (leb-true (trimmed d).p q parts.0, ltb-true (unsigned_abs (trimmed d).n) (2 ^ 127) parts.1)

fits_end : (q : ℕ) (e : End) → fits q e ≡ true → IsEndFor q e
fits_end q NegInf h = cc
fits_end q (Excl d) h = fits_number q d h
fits_end q (Incl d) h = fits_number q d h
fits_end q PosInf h = cc

fits_finite : (q : ℕ) (e : End) → fits q e ≡ true → is_finite e ≡ true
fits_finite q NegInf h = cc
fits_finite q (Excl d) h = refl
fits_finite q (Incl d) h = refl
fits_finite q PosInf h = cc

moved_fits : (q : ℕ) (m : ℤ) → in_range m ≡ true → (nat_le (trimmed (at_places q m)).p q && in_range (trimmed (at_places q m)).n) ≡ true
moved_fits q m h =
    let d = at_places q m in
    and_from _ _ (le-leb (trimmed d).p q (trimmed_places d))
    (lt-ltb (unsigned_abs (trimmed d).n) (2 ^ 127) (trimmed_range d (ltb-true (unsigned_abs m) (2 ^ 127) h)))

end_by_fits : (q : ℕ) (m : ℤ) → in_range m ≡ true → (side : Side) (r : Rel) (f : End) → end_by side r (at_places q m) ≡ Some f → fits q f ≡ true
end_by_fits q m h side r f e =
    let good = moved_fits q m h in
    let open' : Some (Excl (at_places q m)) ≡ Some f → fits q f ≡ true = λ k. subst (λ (o : End). fits q o ≡ true) (some_same _ f k) good in
    let closed : Some (Incl (at_places q m)) ≡ Some f → fits q f ≡ true = λ k. subst (λ (o : End). fits q o ≡ true) (some_same _ f k) good in
    let none : None ≡ Some f → fits q f ≡ true = λ k. cc in
    (elim side as (λ s. end_by s r (at_places q m) ≡ Some f → fits q f ≡ true) [
      | Upper ↦ elim r as (λ r. end_by Upper r (at_places q m) ≡ Some f → fits q f ≡ true) [
        | Less ↦ open'
        | LessEqual ↦ closed
        | Equal ↦ closed
        | GreaterEqual ↦ none
        | Greater ↦ none
      ]
      | Lower ↦ elim r as (λ r. end_by Lower r (at_places q m) ≡ Some f → fits q f ≡ true) [
        | Less ↦ none
        | LessEqual ↦ none
        | Equal ↦ closed
        | GreaterEqual ↦ closed
        | Greater ↦ open'
      ]
    ]) e

bound_fits : (q : ℕ) (c k : Decimal) (side : Side) (r : Rel) (f : End) → option_and_then (end_by side r) (moved_bound q c k) ≡ Some f → fits q f ≡ true
bound_fits q c k side r f e =
    let t = trimmed k in
    let moved = number_at q t +ℤ number_at q (trimmed c) in
    elim (cases_Bool (nat_le t.p q && nat_le (trimmed c).p q && in_range (number_at q t) && in_range moved)) [
      | inl good ↦
          end_by_fits q moved (and_parts _ (in_range moved) good).1 side r f
          (subst (λ (v : Bool). option_and_then (end_by side r) (choose v (Some (at_places q moved)) None) ≡ Some f) good e)
      | inr bad ↦
          let none : None ≡ Some f = subst (λ (v : Bool). option_and_then (end_by side r) (choose v (Some (at_places q moved)) None) ≡ Some f) bad e in
          cc
    ]

compared_fits : (q : ℕ) (c : Decimal) (side : Side) (r : Rel) (o : Option Decimal) (f : End) → bound_end side q r c o ≡ Some f → fits q f ≡ true
compared_fits q c side r None f e = cc
compared_fits q c side r (Some k) f e = bound_fits q c k side r f e

chosen_fits : (q : ℕ) (s t : Bool) (x y : Option End) → ((f : End) → x ≡ Some f → fits q f ≡ true) → ((f : End) → y ≡ Some f → fits q f ≡ true) →
    (f : End) → choose s x (choose t y None) ≡ Some f → fits q f ≡ true
chosen_fits q true t x y h k f e = h f e
chosen_fits q false true x y h k f e = k f e
chosen_fits q false false x y h k f e = cc

conjunct_fits : (side : Side) (q x : ℕ) (c : Decimal) (o : GCond-F GCond) (f : End) → moved_end_layer side q x c o ≡ Some f → fits q f ≡ true
conjunct_fits side q x c cond.True f e = cc
conjunct_fits side q x c cond.False f e = cc
conjunct_fits side q x c (cond.Fact g truth) f e = cc
conjunct_fits side q x c (cond.Cmp r a b) f e =
    chosen_fits q (reads x a) (reads x b) (bound_end side q r c (constant_of b)) (bound_end side q (exchanged r) c (constant_of a))
    (compared_fits q c side r (constant_of b)) (compared_fits q c side (exchanged r) (constant_of a)) f e
conjunct_fits side q x c (cond.And cs) f e = cc
conjunct_fits side q x c (cond.Or cs) f e = cc

ends_fit : (side : Side) (q x : ℕ) (c : Decimal) (gs : List GCond) → list_all (fits q) (filter_map (moved_end side q x c) gs) ≡ true
ends_fit side q x c [] = refl
ends_fit side q x c (g ∷ gs) =
    elim (option_cases (moved_end side q x c g)) [
      | inl none ↦ rw none (ends_fit side q x c gs)
      | inr some ↦ rw some.1 (and_from _ _ (conjunct_fits side q x c (out-GCond g) some.0 some.1) (ends_fit side q x c gs))
    ]

moved_ends_fit : (side : Side) (q x : ℕ) (o : Option Decimal) (pre : GCond) → list_all (fits q) (moved_ends side q x o pre) ≡ true
moved_ends_fit side q x None pre = refl
moved_ends_fit side q x (Some c) pre = ends_fit side q x c (top_conjuncts pre)

-- ---- the tightest end

all_at : (test : End → Bool) (es : List End) (i : ℕ) (d : End) → list_all test es ≡ true → i < length es → test (get_or es i d) ≡ true
all_at test [] i d h k = absurd (omega arith)
all_at test (e ∷ es) zero d h k = (and_parts (test e) _ h).0
all_at test (e ∷ es) (suc i) d h k = all_at test es i d (and_parts (test e) _ h).1 (omega arith)

any_at : (test : End → Bool) (es : List End) → list_any test es ≡ true → (e : End) × IsAmong es e × (test e ≡ true)
any_at test [] h = absurd cc
any_at test (e ∷ es) h =
    elim (or_cases (test e) _ h) [
      | inl here ↦ (e, (0, (omega arith, refl)), here)
      | inr later ↦ let found = any_at test es later in (found.0, (suc found.1.0, (omega (arith, found.1.1.0), found.1.1.1)), found.2)
    ]

among_passes : (test : End → Bool) (es : List End) (e : End) → IsAmong es e → test e ≡ true → list_any test es ≡ true
among_passes test [] e (i, (h, is)) t = absurd (omega arith)
among_passes test (f ∷ es) e (zero, (h, is)) t = or_left (test f) _ (subst (λ (x : End). test x ≡ true) is t)
among_passes test (f ∷ es) e (suc i, (h, is)) t = or_right (test f) _ (among_passes test es e (i, (omega arith, is)) t)

among_all : (test : End → Bool) (es : List End) (e : End) → IsAmong es e → list_all test es ≡ true → test e ≡ true
among_all test es e (i, (h, is)) all = subst (λ (x : End). test x ≡ true) (sym is) (all_at test es i e all h)

pub side_trans : (side : Side) (a b c : End) → covers side a b ≡ true → covers side b c ≡ true → covers side a c ≡ true
side_trans Upper a b c h k = upper_covers_trans a b c h k
side_trans Lower a b c h k = lower_covers_trans a b c h k

side_refl : (side : Side) (a : End) → covers side a a ≡ true
side_refl Upper a = upper_covers_refl a
side_refl Lower a = lower_covers_refl a

side_total : (side : Side) (a b : End) → covers side a b ≡ false → covers side b a ≡ true
side_total Upper a b h = upper_covers_total a b h
side_total Lower a b h = lower_covers_total a b h

both_true : (a b : Bool) → (a ≡ true → b ≡ true) → (b ≡ true → a ≡ true) → a ≡ b
both_true true b h k = sym (h refl)
both_true false true h k = k refl
both_true false false h k = refl

-- an end is as far out as one of these exactly where it is as far out as the tightest
pub reaches_tightest : (side : Side) (ends : List End) (f : End) (i : Interval) → IsTightest side (infinity side ∷ ends) f → reaches side ends i ≡ covers side (end_on side i) f
reaches_tightest side ends f i tight =
    let es = infinity side ∷ ends in
    let e = end_on side i in
    both_true (list_any (covers side e) es) (covers side e f)
    (λ h. let found = any_at (covers side e) es h in
    side_trans side e found.0 f found.2 (subst (λ (x : End). covers side x f ≡ true) (sym found.1.1.1) (tight.covered found.1.0 found.0 found.1.1.0)))
    (λ h. among_passes (covers side e) es f tight.one_of h)

pub tightest_start : (side : Side) → IsTightest side (infinity side ∷ []) (infinity side)
tightest_start side =
    record { one_of = (0, (omega arith, refl)); covered = All-cons (λ o. covers side o (infinity side) ≡ true) (infinity side) [] (side_refl side (infinity side)) (All-nil _) }

-- one more end
pub tightest_more : (side : Side) (es : List End) (best e r : End) → IsTightest side es best → r ≡ choose (covers side best e) e best → IsTightest side (es ++ (e ∷ [])) r
tightest_more side es best e r tight is =
    elim (cases_Bool (covers side best e)) [
      | inl h ↦
          let r_is : r ≡ e = is ∙ ap (λ (v : Bool). choose v e best) h in
          subst (λ (x : End). IsTightest side (es ++ (e ∷ [])) x) (sym r_is)
          (record {
            one_of = (length es, (omega (arith, length-append es (e ∷ [])), sym (get_or-append_seam es e [] e)));
            covered = All-append (λ o. covers side o e ≡ true) es (e ∷ [])
                (λ i d k. side_trans side (get_or es i d) best e (tight.covered i d k) h)
                (All-cons (λ o. covers side o e ≡ true) e [] (side_refl side e) (All-nil _));
          })
      | inr h ↦
          let r_is : r ≡ best = is ∙ ap (λ (v : Bool). choose v e best) h in
          subst (λ (x : End). IsTightest side (es ++ (e ∷ [])) x) (sym r_is)
          (record {
            one_of = (tight.one_of.0, (omega (arith, length-append es (e ∷ []), tight.one_of.1.0), tight.one_of.1.1 ∙ sym (get_or_append_left es (e ∷ []) best tight.one_of.0 tight.one_of.1.0)));
            covered = All-append (λ o. covers side o best ≡ true) es (e ∷ []) tight.covered
                (All-cons (λ o. covers side o best ≡ true) e [] (side_total side best e h) (All-nil _));
          })
    ]

-- the tightest end is one that the fluent may have
infinity_fits : (side : Side) (q : ℕ) → IsEndFor q (infinity side)
infinity_fits Upper q = tt
infinity_fits Lower q = tt

pub tightest_fits : (places : List ℕ) (pre : GCond) (x : ℕ) (e : GExpr) (side : Side) (f : End) → IsTightest side (infinity side ∷ bounds_of places pre x e side) f → IsEndFor (get_or places x 0) f
tightest_fits places pre x e side f tight = at tight.one_of
  where
    at : IsAmong (infinity side ∷ bounds_of places pre x e side) f → IsEndFor (get_or places x 0) f
    at (zero, (h, is)) = subst (IsEndFor (get_or places x 0)) (sym is) (infinity_fits side (get_or places x 0))
    at (suc i, (h, is)) =
        fits_end (get_or places x 0) f
        (among_all (fits (get_or places x 0)) (bounds_of places pre x e side) f (i, (omega arith, is)) (moved_ends_fit side (get_or places x 0) x (constant_of e) pre))

-- ---- caps

not_finite : (side : Side) → is_finite (infinity side) ≡ false
not_finite Upper = refl
not_finite Lower = refl

finite_covers : (side : Side) (g f : End) → is_finite g ≡ true → covers side g f ≡ true → f ≡ infinity side → ⊥
finite_covers Upper NegInf f h k e = cc
finite_covers Upper (Excl d) f h k e = let z : false ≡ true = subst (λ (x : End). upper_covers (Excl d) x ≡ true) e k in cc
finite_covers Upper (Incl d) f h k e = let z : false ≡ true = subst (λ (x : End). upper_covers (Incl d) x ≡ true) e k in cc
finite_covers Upper PosInf f h k e = cc
finite_covers Lower NegInf f h k e = cc
finite_covers Lower (Excl d) f h k e = let z : false ≡ true = subst (λ (x : End). lower_covers (Excl d) x ≡ true) e k in cc
finite_covers Lower (Incl d) f h k e = let z : false ≡ true = subst (λ (x : End). lower_covers (Incl d) x ≡ true) e k in cc
finite_covers Lower PosInf f h k e = cc

module _ (side : Side) (q x : ℕ) (c : Decimal) (pre : GCond) (f : End) (tight : IsTightest side (infinity side ∷ moved_ends side q x (Some c) pre) f) where
  abbrev ends : List End
  ends = moved_ends side q x (Some c) pre

  -- a finite end is the tightest of the bounds' own
  pub own_tightest : is_finite f ≡ true → IsTightest side ends f
  own_tightest finite = record { one_of = at tight.one_of; covered = All-tail (λ o. covers side o f ≡ true) (infinity side) ends tight.covered }
    where
      at : IsAmong (infinity side ∷ ends) f → IsAmong ends f
      at (zero, (h, is)) = absurd (both_ways (is_finite f) (subst (λ (e : End). is_finite e ≡ false) (sym is) (not_finite side)) finite)
      at (suc i, (h, is)) = (i, (omega arith, is))

  -- where it is infinite there are no bounds
  pub no_tightest : is_finite f ≡ false → (g : End) → IsTightest side ends g → ⊥
  no_tightest infinite g other = at tight.one_of
    where
      g_finite : is_finite g ≡ true
      g_finite = fits_finite q g (among_all (fits q) ends g other.one_of (moved_ends_fit side q x (Some c) pre))

      g_covers : covers side g f ≡ true
      g_covers =
          subst (λ (e : End). covers side e f ≡ true) (sym other.one_of.1.1)
          (All-tail (λ o. covers side o f ≡ true) (infinity side) ends tight.covered other.one_of.0 g other.one_of.1.0)

      at : IsAmong (infinity side ∷ ends) f → ⊥
      at (zero, (h, is)) = finite_covers side g f g_finite g_covers is
      at (suc i, (h, is)) =
          both_ways (is_finite f) infinite (fits_finite q f (among_all (fits q) ends f (i, (omega arith, is)) (moved_ends_fit side q x (Some c) pre)))

-- ---- one condition more

filter_some : (f : GCond → Option End) (xs : List GCond) (i : ℕ) (x : GCond) (e : End) → i < length xs → x ≡ get_or xs i x → f x ≡ Some e → filter_map f (take (suc i) xs) ≡ filter_map f (take i xs) ++ (e ∷ [])
filter_some f [] i x e h is k = absurd (omega arith)
filter_some f (y ∷ ys) zero x e h is k = rw (sym (ap f is) ∙ k) refl
filter_some f (y ∷ ys) (suc i) x e h is k =
    elim (option_cases (f y)) [
      | inl none ↦ rw none (filter_some f ys i x e (omega arith) is k)
      | inr some ↦ rw some.1 (ap (λ es. some.0 ∷ es) (filter_some f ys i x e (omega arith) is k))
    ]

filter_none : (f : GCond → Option End) (xs : List GCond) (i : ℕ) (x : GCond) → i < length xs → x ≡ get_or xs i x → f x ≡ None → filter_map f (take (suc i) xs) ≡ filter_map f (take i xs)
filter_none f [] i x h is k = absurd (omega arith)
filter_none f (y ∷ ys) zero x h is k = rw (sym (ap f is) ∙ k) refl
filter_none f (y ∷ ys) (suc i) x h is k =
    elim (option_cases (f y)) [
      | inl none ↦ rw none (filter_none f ys i x (omega arith) is k)
      | inr some ↦ rw some.1 (ap (λ es. some.0 ∷ es) (filter_none f ys i x (omega arith) is k))
    ]

module _ (side : Side) (f : GCond → Option End) (xs : List GCond) (i : ℕ) (x : GCond) (best r : End) (h : i < length xs) (is : x ≡ get_or xs i x)
    (old : IsTightest side (infinity side ∷ filter_map f (take i xs)) best) where
  pub tightest_with : (e : End) → f x ≡ Some e → r ≡ choose (covers side best e) e best → IsTightest side (infinity side ∷ filter_map f (take (i + 1) xs)) r
  tightest_with e k r_is =
      subst (λ es. IsTightest side (infinity side ∷ es) r) (sym (ap (λ (n : ℕ). filter_map f (take n xs)) (add-one i) ∙ filter_some f xs i x e h is k))
      (tightest_more side (infinity side ∷ filter_map f (take i xs)) best e r old r_is)

  pub tightest_without : f x ≡ None → r ≡ best → IsTightest side (infinity side ∷ filter_map f (take (i + 1) xs)) r
  tightest_without k r_is =
      subst (λ es. IsTightest side (infinity side ∷ es) r) (sym (ap (λ (n : ℕ). filter_map f (take n xs)) (add-one i) ∙ filter_none f xs i x h is k)) (subst (λ b. IsTightest side (infinity side ∷ filter_map f (take i xs)) b) (sym r_is) old)

-- as the code has it
pub tightest_by : (places : List ℕ) (pre : GCond) (x : ℕ) (e : GExpr) (side : Side) (c : Decimal) (q : ℕ) (gs : List GCond) (f : End) → constant_of e ≡ Some c → q ≡ get_or places x 0 → gs ≡ top_conjuncts pre →
    IsTightest side (infinity side ∷ filter_map (moved_end side q x c) gs) f → IsTightest side (infinity side ∷ bounds_of places pre x e side) f
tightest_by places pre x e side c q gs f constant q_is gs_is tight =
    let here : IsTightest side (infinity side ∷ moved_ends side (get_or places x 0) x (Some c) pre) f = rw (q_is, gs_is) at tight in
    subst (λ (o : Option Decimal). IsTightest side (infinity side ∷ moved_ends side (get_or places x 0) x o pre) f) (sym constant) here

-- ---- caps of effects

module _ (places : List ℕ) (pre : GCond) (x : ℕ) (change : Change) where
  none_grows : {P : Type 0} (o : Option Decimal) (c : Decimal) → o ≡ None → o ≡ Some c → P
  none_grows None c h k = cc
  none_grows (Some d) c h k = cc

  pub no_growth : growth_of change ≡ None → (end : End) → IsCap places pre x change end → ⊥
  no_growth h end cap = none_grows (growth_of change) cap.constant h cap.grows

  pub no_side : (c : Decimal) → growth_of change ≡ Some c → side_of c ≡ None → (end : End) → IsCap places pre x change end → ⊥
  no_side c h k end cap =
      let same : c ≡ cap.constant = some_same c cap.constant (sym h ∙ cap.grows) in
      none_side (side_of c) cap.side k (ap side_of same ∙ cap.moves)
    where
      none_side : (o : Option Side) (s : Side) → o ≡ None → o ≡ Some s → ⊥
      none_side None s h k = cc
      none_side (Some t) s h k = cc

  module _ (c : Decimal) (side : Side) (grows : growth_of change ≡ Some c) (moves : side_of c ≡ Some side) (f : End)
      (tight : IsTightest side (infinity side ∷ moved_ends side (get_or places x 0) x (Some c) pre) f) where
    pub capped : is_finite f ≡ true → IsCap places pre x change f
    capped finite = record { constant = c; side = side; grows = grows; moves = moves; tightest = own_tightest side (get_or places x 0) x c pre f tight finite }

    pub uncapped : is_finite f ≡ false → (end : End) → IsCap places pre x change end → ⊥
    uncapped infinite end cap =
        let same : cap.constant ≡ c = some_same cap.constant c (sym cap.grows ∙ grows) in
        let side_is : cap.side ≡ side = some_same cap.side side (sym cap.moves ∙ ap side_of same ∙ moves) in
        no_tightest side (get_or places x 0) x c pre f tight infinite end
        (subst (λ (s : Side). IsTightest s (moved_ends s (get_or places x 0) x (Some c) pre) end) side_is
        (subst (λ (d : Decimal). IsTightest cap.side (moved_ends cap.side (get_or places x 0) x (Some d) pre) end) same cap.tightest))

  growth_is : (c : Decimal) → growth_of change ≡ Some c → constant_of (right_side change) ≡ Some c
  growth_is c h = at change h
    where
      at : (change : Change) → growth_of change ≡ Some c → constant_of (right_side change) ≡ Some c
      at (Add e) h = h
      at (Set e) h = cc

  pub cap_found : (c : Decimal) (side : Side) (e : GExpr) (r : Option End) (f : End) → growth_of change ≡ Some c → side_of c ≡ Some side → e ≡ right_side change →
      IsTightest side (infinity side ∷ bounds_of places pre x e side) f → MatchOption r (is_finite f ≡ false) (λ g. (g ≡ f) × (is_finite f ≡ true)) →
      MatchOption r ((end : End) → IsCap places pre x change end → ⊥) (IsCap places pre x change)
  cap_found c side e r f grows moves e_is tight found = at r found
    where
      here : IsTightest side (infinity side ∷ moved_ends side (get_or places x 0) x (Some c) pre) f
      here =
          subst (λ (o : Option Decimal). IsTightest side (infinity side ∷ moved_ends side (get_or places x 0) x o pre) f)
          (ap constant_of e_is ∙ growth_is c grows) tight

      at : (r : Option End) → MatchOption r (is_finite f ≡ false) (λ g. (g ≡ f) × (is_finite f ≡ true)) → MatchOption r ((end : End) → IsCap places pre x change end → ⊥) (IsCap places pre x change)
      at None h = uncapped c side grows moves f here h
      at (Some g) h = subst (λ (end : End). IsCap places pre x change end) (sym h.0) (capped c side grows moves f here h.1)

pub effect_cap : (t : TaskValue) (action effect : ℕ) (a : Ground) (e : ℕ × Change) (r : Option End) → slice_get t.raw.actions action ≡ Some a → slice_get a.nums effect ≡ Some e →
    MatchOption r ((end : End) → IsCap t.places a.pre e.0 e.1 end → ⊥) (IsCap t.places a.pre e.0 e.1) → MatchOption r ((end : End) → IsEffectCap t action effect end → ⊥) (IsEffectCap t action effect)
effect_cap t action effect a e None at of h = λ (end : End) (cap : IsEffectCap t action effect end).
    let same : cap.performed ≡ a = some_same cap.performed a (sym cap.is_action ∙ at) in
    let same' : cap.change ≡ e = some_same cap.change e (sym cap.is_effect ∙ ap (λ (g : Ground). slice_get g.nums effect) same ∙ of) in
    h end (subst (λ (p : ℕ × Change). IsCap t.places a.pre p.0 p.1 end) same' (subst (λ (g : Ground). IsCap t.places g.pre cap.change.0 cap.change.1 end) same cap.cap))
effect_cap t action effect a e (Some end) at of h = record { performed = a; change = e; is_action = at; is_effect = of; cap = h }
