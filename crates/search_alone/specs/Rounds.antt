-- The rounds of a search by one worker.
use Rattle.std.specs.Prelude.{suc, ◌≡◌, ◌<◌, Bool, true, false, IsSome}
use Rattle.search_runs.specs.Runs.{count_takes, has_starve}
use Rattle.search_turns.specs.Turns.{SameTerms, Turns, answer_in}
use Rattle.search_core.specs.Searches.{IsPlainSearch}

-- a search by one worker, which hasn't starved
pub record IsFed (v : Turns) : Type 0 where
  pub plain : IsPlainSearch v
  pub unstarved : has_starve v.journal ≡ false

-- a node was taken and expanded, which the limit allowed; or there is an answer
abbrev pub IsRound : Bool → Turns → Turns → Type 0
IsRound true old new =
    SameTerms old new × IsFed new × (count_takes old.journal < old.limit)
    × (count_takes new.journal ≡ suc (count_takes old.journal))
IsRound false old new = SameTerms old new × IsFed new × IsSome (answer_in new)
