-- Internal: why there is no verdict.
use Rattle.std.specs.Prelude.{ℕ, ◌≡◌, ⊤, List}
use Rattle.pair_text.specs.declared.refusals.PairFault.{PairFault}
use Rattle.pair_text.specs.declared.refusals.PairFault.TheVariants.{Refused, NoMemory}
use Rattle.pair_text.specs.declared.refusals.Refusal.TheVariants.{BadLine}
use Rattle.plan_text.specs.Plans.{IsFirstBad}
use Rattle.validate_command.specs.Answers.{IsRefusal}

-- of a plan for a pair
abbrev pub IsPlanFault : List ℕ → PairFault → Type 0
IsPlanFault plan (Refused refusal) = (line : ℕ) × (refusal ≡ BadLine line) × IsFirstBad plan line
IsPlanFault plan NoMemory = ⊤

-- of three texts
abbrev pub IsFault : List ℕ → List ℕ → List ℕ → PairFault → Type 0
IsFault domain problem plan (Refused refusal) = IsRefusal domain problem plan refusal
IsFault domain problem plan NoMemory = ⊤
