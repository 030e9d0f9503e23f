-- Internal: why a pair or a task isn't accepted.
use Rattle.std.specs.Prelude.{ℕ, ◌≡◌, ◌<◌, ⊤, List, Some}
use Rattle.ground_meaning.specs.Refusals.{IsRefused}
use Rattle.ground_meaning.specs.declared.faults.GroundFault.{GroundFault}
use Rattle.ground_task.specs.Tasks.{TaskValue}
use Rattle.ground_text.specs.Refusals.{grounding_refusal}
use Rattle.pair_text.specs.declared.refusals.PairFault.{PairFault}
use Rattle.pair_text.specs.declared.refusals.PairFault.TheVariants.{Refused, NoMemory}
use Rattle.pair_text.specs.declared.refusals.Refusal.TheVariants.{Limit}
use Rattle.pddl_terms.specs.declared.limits.TheConstants.{MAX_SUPPORTERS}
use Rattle.pddl_terms.specs.declared.limits.What.TheVariants.{Supporters}
use Rattle.pddl_types.specs.declared.pairs.Pair.{Pair}
use Rattle.supporter_count.specs.Counts.{supporter_count}

-- the first reason against the ground task of a pair that the texts spell
abbrev pub IsPairFault : List ℕ → List ℕ → Pair → PairFault → Type 0
IsPairFault domain problem pair (Refused refusal) = (f : GroundFault) × IsRefused pair f × (grounding_refusal domain problem f ≡ Some refusal)
IsPairFault domain problem pair NoMemory = ⊤

-- the task has too many supporters
abbrev pub IsTaskFault : TaskValue → PairFault → Type 0
IsTaskFault t (Refused refusal) = (refusal ≡ Limit Supporters) × (MAX_SUPPORTERS < supporter_count t)
IsTaskFault t NoMemory = ⊤
