-- The ends that lie so many steps outward, and the ranks of ends.
use Rattle.std.proofs.Common.{◌≡◌, ℕ, zero, suc, ◌+◌, ◌<◌, ◌≤◌, ◌⊎◌, Bool, true, false, not, List, [], ◌∷◌, ◌++◌, length, length-append, get_or, refl, sym, ◌∙◌, subst, inl, inr, arith}
use Rattle.std.specs.List.{prefix_len}
use Rattle.std.proofs.lemmas.Bool.{cases_lt, both_ways}
use Rattle.std.proofs.lemmas.List.{get_or_past, get_or_append_left, get_or_default}
use Rattle.std.proofs.lemmas.List.Sums.{prefix_len-le-length, prefix_len_passes, prefix_len_stops}
use Rattle.std.proofs.Math.Seq.{get_or-append_seam}
use Rattle.num_ends.specs.Decimal.{Decimal}
use Rattle.num_ends.specs.declared.ends.End.{End}
use Rattle.num_ends.specs.declared.ends.End.TheVariants.{Incl}
use Rattle.box_model.specs.Demands.{covers, infinity}
use Rattle.box_model.specs.declared.caps.Side.{Side}
use Rattle.box_model.specs.declared.caps.Side.TheVariants.{Upper, Lower}
use Rattle.box_rows.specs.Candidates.{HasEqual}
use Rattle.box_rows.specs.Ranks.{end_after, rank_of, steps_by, word_after}
use Rattle.box_rows.proofs.Sides.{infinity_covers, outer_either, outer_first, outer_second, outer_within, side_refl, side_total, side_trans}

pub not_false : (b : Bool) → not b ≡ false → b ≡ true
not_false true h = refl
not_false false h = sym h

not_true : (b : Bool) → not b ≡ true → b ≡ false
not_true true h = sym h
not_true false h = refl

-- each end is as far out as the value
pub after_covers : (side : Side) (v : Decimal) (ends : List End) (r : ℕ) → covers side (end_after side v ends r) (Incl v) ≡ true
after_covers side v ends zero = side_refl side (Incl v)
after_covers side v ends (suc k) = outer_first side (Incl v) (get_or ends k (infinity side))

-- a prefix of which every element passes is no longer than the longest
pub prefix_reaches : {X : Type 0} (p : X → Bool) (xs : List X) (d : X) (n : ℕ) → n ≤ length xs → ((i : ℕ) → i < n → p (get_or xs i d) ≡ true) → n ≤ prefix_len p xs
prefix_reaches p xs d n h all =
    elim (cases_lt (prefix_len p xs) n) [
      | inl short ↦ absurd (both_ways (p (get_or xs (prefix_len p xs) d)) (prefix_len_stops p xs d (omega (arith, h, short))) (all (prefix_len p xs) short))
      | inr long ↦ long
    ]

module _ (side : Side) (ends : List End) (outward : (i j : ℕ) → i ≤ j → j < length ends → covers side (get_or ends j (infinity side)) (get_or ends i (infinity side)) ≡ true) where
  abbrev at : ℕ → End
  at i = get_or ends i (infinity side)

  pub past_covers : (k : ℕ) (e : End) → length ends ≤ k → covers side (at k) e ≡ true
  past_covers k e h = rw (get_or_past ends k (infinity side) h) (infinity_covers side e)

  pub at_grows : (i j : ℕ) → i ≤ j → covers side (at j) (at i) ≡ true
  at_grows i j h =
      elim (cases_lt j (length ends)) [
        | inl inside ↦ outward i j h inside
        | inr past ↦ past_covers j (at i) past
      ]

  -- the ends before the rank are less far out, and the one there isn't
  pub before_rank : (e : End) (k : ℕ) → suc k < rank_of side ends e → covers side (at k) e ≡ false
  before_rank e k h = not_true (covers side (at k) e) (prefix_len_passes (λ c. not (covers side c e)) ends k (infinity side) (omega (arith, h)))

  pub at_rank : (e : End) (k : ℕ) → rank_of side ends e ≤ suc k → covers side (at k) e ≡ true
  at_rank e k h =
      let n = prefix_len (λ c. not (covers side c e)) ends in
      elim (cases_lt n (length ends)) [
        | inl inside ↦ side_trans side (at k) (at n) e (at_grows n k (omega (arith, h))) (not_false (covers side (at n) e) (prefix_len_stops (λ c. not (covers side c e)) ends (infinity side) inside))
        | inr past ↦ past_covers k e (omega (arith, h, past))
      ]

  pub rank_few : (e : End) → rank_of side ends e ≤ suc (length ends)
  rank_few e = omega (arith, prefix_len-le-length (λ c. not (covers side c e)) ends)

  module _ (v : Decimal) where
    abbrev after : ℕ → End
    after = end_after side v ends

    -- each is as far out as the value
    pub after_value : (r : ℕ) → covers side (after r) (Incl v) ≡ true
    after_value zero = side_refl side (Incl v)
    after_value (suc k) = outer_first side (Incl v) (at k)

    pub after_grows : (r q : ℕ) → r ≤ q → covers side (after q) (after r) ≡ true
    after_grows zero q h = after_value q
    after_grows (suc k) zero h = absurd (omega (arith, h))
    after_grows (suc k) (suc j) h =
        outer_within side (Incl v) (at k) (after (suc j)) (after_value (suc j))
        (side_trans side (after (suc j)) (at j) (at k) (outer_second side (Incl v) (at j)) (at_grows k j (omega (arith, h))))

    -- an end is as far out as another exactly where the value is, or the steps are those to it or more
    pub after_reaches : (r : ℕ) (e : End) → rank_of side ends e ≤ r → covers side (after r) e ≡ true
    after_reaches zero e h = absurd (omega (arith, h))
    after_reaches (suc k) e h = side_trans side (after (suc k)) (at k) e (outer_second side (Incl v) (at k)) (at_rank e k h)

    pub reached_after : (r : ℕ) (e : End) → covers side (after r) e ≡ true → (covers side (Incl v) e ≡ true) ⊎ (rank_of side ends e ≤ r)
    reached_after zero e h = inl h
    reached_after (suc k) e h =
        elim (outer_either side (Incl v) (at k) e h) [
          | inl here ↦ inl here
          | inr there ↦ elim (cases_lt (suc k) (rank_of side ends e)) [
            | inl before ↦ absurd (both_ways (covers side (at k) e) (before_rank e k before) there)
            | inr reached ↦ inr reached
          ]
        ]

-- ---- the furthest steps within an end

abbrev pub steps_within : Side → List End → End → ℕ
steps_within side ends e = prefix_len (λ c. covers side e c) (ends ++ infinity side ∷ [])

module _ (side : Side) (ends : List End) where
  length_joined : length (ends ++ infinity side ∷ []) ≡ length ends + 1
  length_joined = length-append ends (infinity side ∷ [])

  pub joined_at : (i : ℕ) → get_or (ends ++ infinity side ∷ []) i (infinity side) ≡ get_or ends i (infinity side)
  joined_at i =
      elim (cases_lt i (length ends)) [
        | inl inside ↦ get_or_append_left ends (infinity side ∷ []) (infinity side) i inside
        | inr past ↦ elim (cases_lt (length ends) i) [
          | inl far ↦ get_or_past (ends ++ infinity side ∷ []) i (infinity side) (omega (arith, length_joined, far)) ∙ sym (get_or_past ends i (infinity side) past)
          | inr near ↦
              let here : length ends ≡ i = omega (arith, past, near) in
              subst (λ (n : ℕ). get_or (ends ++ infinity side ∷ []) n (infinity side) ≡ get_or ends n (infinity side)) here
              (get_or-append_seam ends (infinity side) [] (infinity side) ∙ sym (get_or_past ends (length ends) (infinity side) (omega arith)))
        ]
      ]

  pub within_few : (e : End) → steps_within side ends e ≤ suc (length ends)
  within_few e = omega (arith, prefix_len-le-length (λ c. covers side e c) (ends ++ infinity side ∷ []), length_joined)

  -- so many steps lie within the end
  pub within_end : (v : Decimal) (e : End) → covers side e (Incl v) ≡ true → covers side e (end_after side v ends (steps_within side ends e)) ≡ true
  within_end v e h = at (steps_within side ends e) refl
    where
      at : (r : ℕ) → r ≡ steps_within side ends e → covers side e (end_after side v ends r) ≡ true
      at zero is = h
      at (suc k) is =
          outer_within side (Incl v) (get_or ends k (infinity side)) e h
          (subst (λ (c : End). covers side e c ≡ true) (joined_at k) (prefix_len_passes (λ c. covers side e c) (ends ++ infinity side ∷ []) k (infinity side) (omega (arith, is))))

module _ (side : Side) (ends : List End) (outward : (i j : ℕ) → i ≤ j → j < length ends → covers side (get_or ends j (infinity side)) (get_or ends i (infinity side)) ≡ true) where
  -- where the end is as far out as a candidate, or as the infinite end, the steps to that lie within it
  pub within_reaches : (e d : End) → HasEqual side ends d ⊎ (d ≡ infinity side) → covers side e d ≡ true → rank_of side ends d ≤ steps_within side ends e
  within_reaches e d known h =
      prefix_reaches (λ c. covers side e c) (ends ++ infinity side ∷ []) (infinity side) (rank_of side ends d) (omega (arith, rank_few side ends outward d, length_joined side ends))
      (λ i k. subst (λ (c : End). covers side e c ≡ true) (sym (joined_at side ends i)) (side_trans side e d (get_or ends i (infinity side)) h (lies i k)))
    where
      last : (i : ℕ) → suc i ≡ rank_of side ends d → HasEqual side ends d ⊎ (d ≡ infinity side) → covers side d (get_or ends i (infinity side)) ≡ true
      last i is (inr infinite) = subst (λ (c : End). covers side c (get_or ends i (infinity side)) ≡ true) (sym infinite) (infinity_covers side _)
      last i is (inl equal) =
          let j = equal.among.0 in
          let inside = equal.among.1.0 in
          let here : get_or ends j (infinity side) ≡ equal.member = get_or_default ends j (infinity side) equal.member inside ∙ sym equal.among.1.1 in
          elim (cases_lt j i) [
            | inl before ↦ absurd (both_ways (covers side (get_or ends j (infinity side)) d) (before_rank side ends outward d j (omega (arith, is, before))) (subst (λ (c : End). covers side c d ≡ true) (sym here) equal.as_far))
            | inr after ↦
                side_trans side d equal.member (get_or ends i (infinity side)) equal.no_further
                (subst (λ (c : End). covers side c (get_or ends i (infinity side)) ≡ true) here (outward i j after inside))
          ]

      lies : (i : ℕ) → i < rank_of side ends d → covers side d (get_or ends i (infinity side)) ≡ true
      lies i k =
          elim (cases_lt (suc i) (rank_of side ends d)) [
            | inl before ↦ side_total side (get_or ends i (infinity side)) d (before_rank side ends outward d i before)
            | inr after ↦ last i (omega (arith, k, after)) known
          ]

-- ---- words

module _ (side : Side) (ends : List End) where
  pub word_steps : (r : ℕ) → r ≤ suc (length ends) → steps_by side ends (word_after side ends r) ≡ r
  word_steps r h = at side
    where
      at : (side : Side) → steps_by side ends (word_after side ends r) ≡ r
      at Upper = refl
      at Lower = omega (arith, h)
