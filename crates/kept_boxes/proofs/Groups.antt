-- Hulls of groups, as boxes come and go.
use Rattle.std.proofs.Common.{◌≡◌, ◌≢◌, ℕ, zero, suc, ◌+◌, ◌/◌, ◌%◌, ◌<◌, ◌≤◌, List, [], ◌∷◌, ◌++◌, length, get_or, set, take, Some, refl, sym, ap, subst, ◌∙◌, inl, inr, arith, length-append, length-set}
use Rattle.std.proofs.lemmas.Bool.{cases_order}
use Rattle.box_model.specs.Boxes.{LiesWithin}
use Rattle.box_model.specs.declared.state_box.StateBox.{StateBox}
use Rattle.search_runs.specs.Spaces.{IsAt}
use Rattle.search_runs.proofs.Places.{at_kept, at_last, at_longer, at_same, at_within}
use Rattle.kept_boxes.specs.Hulls.{AreGrouped, AreHulls, HasShapeOf, IsInside, IsWidened}
use Rattle.kept_boxes.proofs.Lies.{box_refl, inside_wider}

-- ---- places

pub item_at : {X : Type 0} (xs : List X) (n : ℕ) → n < length xs → (x : X) × IsAt xs n x
item_at [] n h = absurd (omega (arith, h))
item_at (x ∷ xs) zero h = (x, refl)
item_at (x ∷ xs) (suc n) h = item_at xs n (omega (arith, h))

pub read_at : {X : Type 0} (xs : List X) (n : ℕ) (x : X) → n < length xs → x ≡ get_or xs n x → IsAt xs n x
read_at [] n x h e = absurd (omega (arith, h))
read_at (y ∷ xs) zero x h e = ap (λ z. Some z) (sym e)
read_at (y ∷ xs) (suc n) x h e = read_at xs n x (omega (arith, h)) e

at_set : {X : Type 0} (xs : List X) (n : ℕ) (y x : X) → IsAt (set xs n y) n x → x ≡ y
at_set [] n y x at = cc
at_set (z ∷ xs) zero y x at = cc
at_set (z ∷ xs) (suc n) y x at = at_set xs n y x at

at_set_other : {X : Type 0} (xs : List X) (n m : ℕ) (y x : X) → m ≢ n → IsAt (set xs n y) m x → IsAt xs m x
at_set_other [] n m y x other at = cc
at_set_other (z ∷ xs) zero zero y x other at = absurd (other refl)
at_set_other (z ∷ xs) zero (suc m) y x other at = at
at_set_other (z ∷ xs) (suc n) zero y x other at = at
at_set_other (z ∷ xs) (suc n) (suc m) y x other at = at_set_other xs n m y x (λ same. other (ap suc same)) at

pub at_taken : {X : Type 0} (m : ℕ) (xs : List X) (n : ℕ) (x : X) → IsAt (take m xs) n x → IsAt xs n x
at_taken zero xs n x at = cc
at_taken (suc m) [] n x at = cc
at_taken (suc m) (y ∷ xs) zero x at = at
at_taken (suc m) (y ∷ xs) (suc n) x at = at_taken m xs n x at

taken_within : {X : Type 0} (m : ℕ) (xs : List X) (n : ℕ) → n < m → n < length xs → n < length (take m xs)
taken_within zero xs n h k = absurd (omega (arith, h))
taken_within (suc m) [] n h k = k
taken_within (suc m) (y ∷ xs) zero h k = omega arith
taken_within (suc m) (y ∷ xs) (suc n) h k = omega (arith, taken_within m xs n (omega (arith, h)) (omega (arith, k)))

pub length_taken : {X : Type 0} (m : ℕ) (xs : List X) (n : ℕ) → n < length (take m xs) → (n < m) × (n < length xs)
length_taken zero xs n h = absurd (omega (arith, h))
length_taken (suc m) [] n h = absurd (omega (arith, h))
length_taken (suc m) (y ∷ xs) zero h = (omega arith, omega arith)
length_taken (suc m) (y ∷ xs) (suc n) h = let r = length_taken m xs n (omega (arith, h)) in (omega (arith, r.0), omega (arith, r.1))

-- ---- one group is made wider

pub widened_by : (group : ℕ) (own : StateBox) (old : List StateBox) (was hull : StateBox) → IsAt old group was → LiesWithin was hull → (HasShapeOf own was → LiesWithin own hull)
    → IsWidened group own old (set old group hull)
widened_by group own old was hull at wider around = record {
  longer = omega (arith, length-set old group hull);
  there = omega (arith, length-set old group hull, at_within old group was at);
  kept = λ g before after box was_at now_at inside. by g before after box was_at now_at inside;
  added = λ after now_at shape. subst (λ h. LiesWithin own h) (sym (at_set old group hull after now_at)) (own_in after now_at shape);
}
  where
    own_in : (after : StateBox) → IsAt (set old group hull) group after → HasShapeOf own after → LiesWithin own hull
    own_in after now_at shape =
        let same : after ≡ hull = at_set old group hull after now_at in
        let as_hull : HasShapeOf own hull = subst (HasShapeOf own) same shape in
        around (as_hull.0 ∙ sym wider.as_many_facts, as_hull.1 ∙ sym wider.as_many_fluents)

    by : (g : ℕ) (before after box : StateBox) → IsAt old g before → IsAt (set old group hull) g after → IsInside box before → IsInside box after
    by g before after box was_at now_at inside =
        elim (cases_order g group) [
          | inl same ↦ here same
          | inr (inl less) ↦ there (λ e. omega (arith, less, e))
          | inr (inr more) ↦ there (λ e. omega (arith, more, e))
        ]
      where
        there : g ≢ group → IsInside box after
        there other = subst (IsInside box) (at_same old g before after was_at (at_set_other old group g hull after other now_at)) inside

        here : g ≡ group → IsInside box after
        here same =
            let now_here : IsAt (set old group hull) group after = subst (λ (k : ℕ). IsAt (set old group hull) k after) same now_at in
            let was_here : IsAt old group before = subst (λ (k : ℕ). IsAt old k before) same was_at in
            let one : before ≡ was = at_same old group before was was_here at in
            subst (IsInside box) (sym (at_set old group hull after now_here)) (inside_wider box was hull wider (subst (IsInside box) one inside))

pub widened_new : (own : StateBox) (old : List StateBox) → IsWidened (length old) own old (old ++ own ∷ [])
widened_new own old = record {
  longer = omega (arith, length-append old (own ∷ []));
  there = omega (arith, length-append old (own ∷ []));
  kept = λ g before after box was_at now_at inside. subst (IsInside box) (at_same (old ++ own ∷ []) g before after (at_kept old own g before was_at) now_at) inside;
  added = λ after now_at shape. subst (λ h. LiesWithin own h) (at_same (old ++ own ∷ []) (length old) own after (at_last old own) now_at) (box_refl own);
}

-- ---- the hulls

module _ (size : ℕ) where
  pub still_hulls : (boxes old new : List StateBox) (group : ℕ) (own : StateBox) → AreHulls size boxes old → IsWidened group own old new → AreHulls size boxes new
  still_hulls boxes old new group own are wider = record {
    there = λ n h. omega (arith, are.there n h, wider.longer);
    around = λ n box hull at now_at. (let was = item_at old (n / size) (are.there n (at_within boxes n box at)) in wider.kept (n / size) was.0 hull box was.1 now_at (are.around n box was.0 at was.1));
  }

  pub more_hulls : (boxes old new : List StateBox) (own : StateBox) → AreHulls size boxes old → IsWidened (length boxes / size) own old new → AreHulls size (boxes ++ own ∷ []) new
  more_hulls boxes old new own are wider = record {
    there = λ n h. by n h;
    around = λ n box hull at now_at. around_by n box hull at now_at;
  }
    where
      still : AreHulls size boxes new
      still = still_hulls boxes old new (length boxes / size) own are wider

      by : (n : ℕ) → n < length (boxes ++ own ∷ []) → n / size < length new
      by n h =
          elim (cases_order n (length boxes)) [
            | inl same ↦ subst (λ (k : ℕ). k / size < length new) (sym same) wider.there
            | inr (inl less) ↦ still.there n less
            | inr (inr more) ↦ absurd (omega (arith, h, more, length-append boxes (own ∷ [])))
          ]

      around_by : (n : ℕ) (box hull : StateBox) → IsAt (boxes ++ own ∷ []) n box → IsAt new (n / size) hull → IsInside box hull
      around_by n box hull at now_at =
          elim (at_longer boxes own n box at) [
            | inl before ↦ still.around n box hull before now_at
            | inr (last, same) ↦ subst (λ b. IsInside b hull) (sym same) (wider.added hull (subst (λ (k : ℕ). IsAt new (k / size) hull) last now_at))
          ]

  pub fewer_hulls : (len m : ℕ) (boxes hulls : List StateBox) → AreHulls size boxes hulls → ((n : ℕ) → n < len → n / size < m) → AreHulls size (take len boxes) (take m hulls)
  fewer_hulls len m boxes hulls are enough = record {
    there = λ n h. (let r = length_taken len boxes n h in taken_within m hulls (n / size) (enough n r.0) (are.there n r.1));
    around = λ n box hull at now_at. are.around n box hull (at_taken len boxes n box at) (at_taken m hulls (n / size) hull now_at);
  }

  -- a state that is outside of the hull of a group is outside of its boxes
  pub all_missed : (Holds : StateBox → Type 0) (at : ℕ) (boxes hulls : List StateBox) → AreHulls size boxes hulls → ((hull b : StateBox) → IsAt hulls (at / size) hull → IsInside b hull → Holds b → ⊥)
      → (k : ℕ) (other : StateBox) → k / size ≡ at / size → IsAt boxes k other → Holds other → ⊥
  all_missed Holds at boxes hulls are missed k other same there holds =
      let hull = item_at hulls (k / size) (are.there k (at_within boxes k other there)) in
      missed hull.0 other (subst (λ (g : ℕ). IsAt hulls g hull.0) same hull.1) (are.around k other hull.0 there hull.1) holds

pub no_hulls : (size : ℕ) → AreHulls size [] []
no_hulls size = record { there = λ n h. absurd (omega (arith, h)); around = λ n box hull at now_at. cc }

-- ---- groups of sixteen and of 256

pub next_small : (len h : ℕ) → ((n : ℕ) → n < len → n / 16 < h) → len / 16 ≤ h
next_small zero h there = omega arith
next_small (suc n) h there = omega (arith, there n (omega arith))

pub next_large : (len h : ℕ) → ((n : ℕ) → n < len → n / 256 < h) → len / 256 ≤ h
next_large zero h there = omega arith
next_large (suc n) h there = omega (arith, there n (omega arith))

pub same_small : (at k : ℕ) → at % 16 ≡ 0 → at ≤ k → k < at + 16 → k / 16 ≡ at / 16
same_small at k whole low high = omega arith

pub same_large : (at k : ℕ) → at % 256 ≡ 0 → at ≤ k → k < at + 256 → k / 256 ≡ at / 256
same_large at k whole low high = omega arith

pub enough_small : (len n : ℕ) → n < len → n / 16 < (len + 15) / 16
enough_small len n h = omega arith

pub enough_large : (len n : ℕ) → n < len → n / 256 < (len + 255) / 256
enough_large len n h = omega arith

-- ---- both at once

pub grouped_small : (boxes small large new : List StateBox) (group : ℕ) (own : StateBox) → AreGrouped boxes small large → IsWidened group own small new → AreGrouped boxes new large
grouped_small boxes small large new group own are wider =
    record { few = are.few; by_sixteen = still_hulls 16 boxes small new group own are.by_sixteen wider; by_large = are.by_large }

pub grouped_large : (boxes small large new : List StateBox) (group : ℕ) (own : StateBox) → AreGrouped boxes small large → IsWidened group own large new → AreGrouped boxes small new
grouped_large boxes small large new group own are wider =
    record { few = are.few; by_sixteen = are.by_sixteen; by_large = still_hulls 256 boxes large new group own are.by_large wider }

pub grouped_more : (boxes small large small_new large_new : List StateBox) (number : ℕ) (own : StateBox) → AreGrouped boxes small large → number ≡ length boxes → length boxes < 1000000000
    → IsWidened (number / 16) own small small_new → IsWidened (number / 256) own large large_new → AreGrouped (boxes ++ own ∷ []) small_new large_new
grouped_more boxes small large small_new large_new number own are same room first second = record {
  few = omega (arith, room, length-append boxes (own ∷ []));
  by_sixteen = more_hulls 16 boxes small small_new own are.by_sixteen (subst (λ (n : ℕ). IsWidened (n / 16) own small small_new) same first);
  by_large = more_hulls 256 boxes large large_new own are.by_large (subst (λ (n : ℕ). IsWidened (n / 256) own large large_new) same second);
}

pub grouped_fewer : (len : ℕ) (boxes small large : List StateBox) → AreGrouped boxes small large → AreGrouped (take len boxes) (take ((len + 15) / 16) small) (take ((len + 255) / 256) large)
grouped_fewer len boxes small large are = record {
  few = by (length (take len boxes)) refl;
  by_sixteen = fewer_hulls 16 len ((len + 15) / 16) boxes small are.by_sixteen (enough_small len);
  by_large = fewer_hulls 256 len ((len + 255) / 256) boxes large are.by_large (enough_large len);
}
  where
    by : (n : ℕ) → length (take len boxes) ≡ n → n ≤ 1000000000
    by zero is = omega arith
    by (suc n) is = let r = length_taken len boxes n (omega (arith, is)) in omega (arith, r.1, are.few)
