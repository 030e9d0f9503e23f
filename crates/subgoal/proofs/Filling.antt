-- A list that is filled from the front with the numbers of another.
use Rattle.std.proofs.Common.{◌≡◌, ℕ, ◌+◌, ◌<◌, ◌≤◌, List, length, get_or, set, ◌∙◌, arith, below_more, get_or-set_other, get_or-set_same}
use Rattle.std.proofs.lemmas.List.{ext_get_or, length-set}

-- the first i are those of the target
pub record AreFilled (target : List ℕ) (i : ℕ) (ns : List ℕ) : Type 0 where
  pub as_many : length ns ≡ length target
  pub done : (k : ℕ) → k < i → get_or ns k 0 ≡ get_or target k 0

pub filled_first : (target ns : List ℕ) → length ns ≡ length target → AreFilled target 0 ns
filled_first target ns long = record { as_many = long; done = λ k h. absurd (omega arith) }

pub filled_next : (target ns : List ℕ) (i n : ℕ) → i < length target → n ≡ get_or target i 0 → AreFilled target i ns → AreFilled target (i + 1) (set ns i n)
filled_next target ns i n within is h = record {
  as_many = length-set ns i n ∙ h.as_many;
  done = below_more (λ (k : ℕ). get_or (set ns i n) k 0 ≡ get_or target k 0) i
      (λ k below. get_or-set_other ns i k n 0 (λ same. omega (arith, below)) ∙ h.done k below)
      (get_or-set_same ns i n 0 (omega (arith, within, h.as_many)) ∙ is);
}

pub filled_end : (target ns : List ℕ) (i : ℕ) → length target ≤ i → AreFilled target i ns → ns ≡ target
filled_end target ns i past h = ext_get_or 0 ns target h.as_many (λ k within. h.done k (omega (arith, within, past, h.as_many)))
