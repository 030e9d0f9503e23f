-- Ranks of ends: how many steps outward from the value of a state an end lies, among the ends at which changes stop.
use Rattle.std.specs.Prelude.{ℕ, zero, suc, ◌-◌, List, not, cond, length, slice_index_or}
use Rattle.std.specs.List.{prefix_len}
use Rattle.num_ends.specs.Decimal.{Decimal}
use Rattle.num_ends.specs.declared.ends.End.{End}
use Rattle.num_ends.specs.declared.ends.End.TheVariants.{Incl}
use Rattle.box_model.specs.Demands.{covers, infinity}
use Rattle.box_model.specs.declared.caps.Side.{Side}
use Rattle.box_model.specs.declared.caps.Side.TheVariants.{Upper, Lower}

-- the further out of two ends of this side
abbrev pub outer : Side → End → End → End
outer side a b = cond (covers side a b) a b

-- The end that lies so many steps outward from a value: the value itself, closed; then the further out of it and of each
-- of the ends in turn; and past the last of them the infinite end.
abbrev pub end_after : Side → Decimal → List End → ℕ → End
end_after side v ends zero = Incl v
end_after side v ends (suc r) = outer side (Incl v) (slice_index_or ends r (infinity side))

-- the steps to the first of the ends that is as far out as this one, and past the last where none is
abbrev pub rank_of : Side → List End → End → ℕ
rank_of side ends end = suc (prefix_len (λ candidate. not (covers side candidate end)) ends)

-- The word of an end counts its steps upward from 0 on the upper side. On the lower side it counts them downward, from the
-- number of steps to the infinite end.
abbrev pub word_after : Side → List End → ℕ → ℕ
word_after Upper ends r = r
word_after Lower ends r = suc (length ends) - r

-- the steps that a word says
abbrev pub steps_by : Side → List End → ℕ → ℕ
steps_by Upper ends w = w
steps_by Lower ends w = suc (length ends) - w
