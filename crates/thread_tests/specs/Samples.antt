-- Two systems for tests.
use Rattle.std.specs.Prelude.{ℕ, zero, suc, ◌+◌, ◌-◌, ◌*◌, ◌/◌, ◌%◌, ◌==◌, cond, nat_lt, List, slice_index, Option, Some, None}
use Rattle.bound_words.specs.declared.system.Direction.{Direction}
use Rattle.bound_words.specs.declared.system.Direction.TheVariants.{Max, Min, Or}
use Rattle.bound_words.specs.Rows.{Terms}

abbrev pub small_direction : ℕ → Direction
small_direction zero = Max
small_direction (suc zero) = Min
small_direction (suc (suc w)) = Or

abbrev pub small_asks : ℕ → List ℕ → Option (ℕ × ℕ)
small_asks zero row = Some (0, 3)
small_asks (suc zero) row = cond (slice_index row 0 == 0) None (Some (1, 10 - slice_index row 0))
small_asks (suc (suc rule)) row = cond (nat_lt 7 (slice_index row 1)) None (Some (2, 4))

-- one word of each way, and three rules
abbrev pub small : Terms
small = record { words = 3; direction = small_direction; rules = 3; asks = small_asks }

-- the word that the rule asks
abbrev pub chain_target : ℕ → ℕ
chain_target rule = rule % 10000 + 1 + 10 * (rule / 10000)

abbrev pub chain_asks : ℕ → List ℕ → Option (ℕ × ℕ)
chain_asks rule row = cond (nat_lt (chain_target rule) 10000) (Some (chain_target rule, slice_index row (rule % 10000))) None

-- ten rules for each of 10,000 words hand its value on to later words, at most 91 further
abbrev pub chain : Terms
chain = record { words = 10000; direction = λ _. Max; rules = 100000; asks = chain_asks }
