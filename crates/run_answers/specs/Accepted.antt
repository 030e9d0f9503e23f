-- Texts that are accepted.
use Rattle.std.specs.Prelude.{ℕ, List}
use Rattle.pddl_types.specs.declared.pairs.Pair.{Pair}
use Rattle.pair_text.specs.Reasons.{IsAcceptedPair}

-- the texts spell a domain and a problem that are well formed together, and this holds of the pair
abbrev pub Accepts : (Pair → Type 0) → List ℕ → List ℕ → Type 0
Accepts P domain problem = (pair : Pair) × IsAcceptedPair domain problem pair × P pair
