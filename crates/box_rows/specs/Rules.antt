-- Which supporters a task has, in order, and the rules that they become.
use Rattle.std.specs.Prelude.{ℕ, suc, ◌≡◌, ◌+◌, ◌<◌, ◌≤◌, ◌^◌, ◌++◌, List, [], ◌∷◌, Bool, cond, All, length, map, slice_index_or}
use Rattle.std.specs.List.{flat_map, range_with_len}
use Rattle.num_ends.specs.declared.ends.End.{End}
use Rattle.ground_task.specs.declared.raw.Change.{Change}
use Rattle.ground_task.specs.declared.raw.Ground.{Ground}
use Rattle.ground_task.specs.Tasks.{TaskValue, is_listed}
use Rattle.box_model.specs.declared.caps.Side.{Side}
use Rattle.box_model.specs.declared.caps.Side.TheVariants.{Upper, Lower}
use Rattle.supporter_count.specs.Counts.{changed_facts}
use Rattle.box_rows.specs.Candidates.{AreCandidates, IsDemandedEnd, IsEffect}
use Rattle.box_rows.specs.Ranks.{rank_of, word_after}
use Rattle.box_rows.specs.declared.rule.Demand.{Demand}
use Rattle.box_rows.specs.declared.rule.Demand.TheVariants.{MayBe, Reaches}
use Rattle.box_rows.specs.declared.rule.Supporter.{Supporter}
use Rattle.box_rows.specs.declared.rule.Rule.{Rule}
use Rattle.box_rows.specs.Tables.{SupportersValue}

-- a fact that an action changes may be true where the action adds it, and may be false otherwise
abbrev pub fact_demand : Ground → ℕ → Demand
fact_demand a f = MayBe f (is_listed a.adds f)

-- what an action demands: of each fact that it changes, and of both ends of each fluent that it changes
abbrev pub demands_of : Ground → List Demand
demands_of a =
    map (fact_demand a) (changed_facts a)
    ++ flat_map (λ effect. Reaches Upper effect ∷ Reaches Lower effect ∷ []) (range_with_len 0 (length a.nums))

-- the supporters of actions whose numbers begin with this one
abbrev pub supporters_from : ℕ → List Ground → List Supporter
supporters_from number [] = []
supporters_from number (a ∷ others) = map (λ demand. record { action = number; demand = demand }) (demands_of a) ++ supporters_from (suc number) others

-- the supporters of a task
abbrev pub supporters_of : TaskValue → List Supporter
supporters_of t = supporters_from 0 t.raw.actions

-- ---- words

-- the ends of a fluent at which its changes stop on this side
abbrev pub ends_of : SupportersValue → Side → ℕ → List End
ends_of s Upper x = slice_index_or s.uppers x []
ends_of s Lower x = slice_index_or s.lowers x []

-- the word of an end: the words of the facts come first, then those of the upper ends, and then those of the lower ends
abbrev pub end_word : TaskValue → Side → ℕ → ℕ
end_word t Upper x = length t.raw.facts + x
end_word t Lower x = length t.raw.facts + (length t.raw.fluents + x)

-- the bit that says that a fact may have this truth value
abbrev pub mask : Bool → ℕ
mask truth = cond truth 1 2

-- ---- rules

-- the word of the end that an effect moves, raised to the first end that is as far out as the demanded one
pub record IsEndRule (t : TaskValue) (s : SupportersValue) (side : Side) (effect : ℕ) (r : Rule) : Type 0 where
  pub performed : Ground
  pub fluent : ℕ
  pub change : Change
  pub changes : IsEffect t r.supporter.action effect performed fluent change
  pub demanded : IsDemandedEnd t.places side performed.pre fluent change r.end
  pub raises : r.word ≡ end_word t side fluent
  pub raised : r.value ≡ word_after side (ends_of s side fluent) (rank_of side (ends_of s side fluent) r.end)

-- the word and the value of a rule are those of its demand
abbrev pub IsRule : TaskValue → SupportersValue → Rule → Demand → Type 0
IsRule t s r (MayBe f truth) = (r.word ≡ f) × (r.value ≡ mask truth)
IsRule t s r (Reaches side effect) = IsEndRule t s side effect r

-- the ends at which the changes of each fluent stop, and a rule for each supporter, in order
pub record IsSupportersOf (t : TaskValue) (s : SupportersValue) : Type 0 where
  pub uppers_each : length s.uppers ≡ length t.raw.fluents
  pub lowers_each : length s.lowers ≡ length t.raw.fluents
  pub candidates : (side : Side) (x : ℕ) → x < length t.raw.fluents → AreCandidates t side x (ends_of s side x)
  pub few_ends : (side : Side) (x : ℕ) → x < length t.raw.fluents → length (ends_of s side x) < 2 ^ 32
  pub few_rules : length s.rules ≤ 200000
  pub in_order : map (λ r. r.supporter) s.rules ≡ supporters_of t
  pub rules : All (λ r. IsRule t s r r.supporter.demand) s.rules
