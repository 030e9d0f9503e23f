-- Numeric effects that fold without a fault, each by itself and none joined to another.
use Rattle.std.specs.Prelude.{ℕ, ◌&&◌, ◌==◌, Bool, true, false, not, List, [], ◌∷◌, Option, Some, None, Result, Ok, Err, is_some}
use Rattle.std.specs.List.{list_all}
use Rattle.num_ends.specs.Decimal.{Decimal, origin}
use Rattle.pddl_terms.specs.declared.actions.Assign.{Assign}
use Rattle.pddl_terms.specs.declared.actions.Assign.TheVariants as how
use Rattle.pddl_terms.specs.declared.expressions.Op.TheVariants as op
use Rattle.pddl_meaning.specs.Effects.{is_joined}
use Rattle.pddl_meaning.specs.Values.{in_bounds}
use Rattle.ground_meaning.specs.Results.{after}
use Rattle.ground_meaning.specs.Expressions.{FoldFault, Operand, difference}
use Rattle.ground_meaning.specs.Expressions.Operand.{constant}
use Rattle.bound_actions.specs.Patterns.{fluent_code_by}
use Rattle.folding.specs.declared.changes.ChangePattern.{ChangePattern}
use Rattle.folding.specs.internal.Changes.{folded_by}

-- it isn't a fault
abbrev pub is_answered : {A : Type 0} → Result A FoldFault → Bool
is_answered (Ok a) = true
is_answered (Err f) = false

-- what an effect with this value gives where none before it is on its fluent
abbrev pub alone : Assign → Operand → Result Operand FoldFault
alone how.Set v = Ok v
alone how.Up v = Ok v
alone how.Down v = difference (constant origin) v
alone how.Scale v = Ok v

abbrev pub is_sound : List ℕ → ChangePattern → Bool
is_sound os q = is_answered (after (alone q.how) (folded_by os q.value))

-- 0 less a constant is in the range
abbrev pub has_negation : Option Decimal → Bool
has_negation None = true
has_negation (Some c) = is_some (in_bounds op.Sub origin c)

-- the two aren't an increase or a decrease of one fluent each
abbrev pub are_distinct : List ℕ → ChangePattern → ChangePattern → Bool
are_distinct os q r = not (is_joined q.how && (is_joined r.how && (fluent_code_by os q.fluent == fluent_code_by os r.fluent)))

abbrev pub are_sound : List ℕ → List ChangePattern → Bool
are_sound os [] = true
are_sound os (q ∷ qs) = is_sound os q && (list_all (are_distinct os q) qs && are_sound os qs)
