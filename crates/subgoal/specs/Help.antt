-- How the actions of a task help the atoms of a state.
use Rattle.std.specs.Prelude.{ℕ, ◌++◌, ◌&&◌, ◌||◌, ◌==◌, Bool, true, false, not, List, [], ◌∷◌, Option, Some, None, option_map, if◌then◌else◌}
use Rattle.std.specs.List.{list_any}
use Rattle.std.specs.Option.{option_and_then}
use Rattle.num_ends.specs.Decimal.{Decimal}
use Rattle.ground_task.specs.declared.answers.Truth.{Truth}
use Rattle.ground_task.specs.declared.answers.Truth.TheVariants as truth
use Rattle.ground_task.specs.declared.raw.Rel.{Rel}
use Rattle.ground_task.specs.declared.raw.GExpr.{GExpr, GExpr-F, fold-GExpr}
use Rattle.ground_task.specs.declared.raw.GExpr.TheOpen as expr
use Rattle.ground_task.specs.declared.raw.GCond.TheVariants as condition
use Rattle.ground_task.specs.declared.raw.Ground.{Ground}
use Rattle.ground_task.specs.Meaning.{fact_value, has_truth}
use Rattle.ground_task.specs.Ranged.{ranged_truth}
use Rattle.ground_task.specs.States.{StateValue}
use Rattle.ground_task.specs.Tasks.{TaskValue, is_listed}
use Rattle.simple_atoms.specs.declared.linear.Linear.{Linear}
use Rattle.simple_atoms.specs.Forms.{linear_form}
use Rattle.simple_atoms.specs.Repetitions.{repetitions}
use Rattle.simple_atoms.specs.Values.{form_value, gain_of}
use Rattle.subgoal.specs.Equations.{Atoms, Help}

abbrev pub once_where : Bool → Option ℕ
once_where helps = if helps then Some 1 else None

-- ---- literals

-- a fact is added; or it is deleted, and not added
abbrev pub makes : ℕ → Bool → Ground → Bool
makes f true a = is_listed a.adds f
makes f false a = is_listed a.dels f && not (is_listed a.adds f)

abbrev pub literal_help : StateValue → ℕ → Bool → Option Help
literal_help s f truth = if has_truth truth (fact_value s f) then None else Some (λ a. once_where (makes f truth a))

-- ---- comparisons

-- an action has a numeric effect on a fluent
abbrev pub changes : Ground → ℕ → Bool
changes a x = list_any (λ effect. effect.0 == x) a.nums

abbrev pub reads_layer : GExpr-F (List ℕ) → List ℕ
reads_layer (expr.Const c) = []
reads_layer (expr.Read x) = x ∷ []
reads_layer (expr.Add a b) = a ++ b
reads_layer (expr.Sub a b) = a ++ b
reads_layer (expr.Mul a b) = a ++ b

-- the fluents that an expression reads
unfoldable pub reads_of : GExpr → List ℕ
reads_of = fold-GExpr (List ℕ) reads_layer

-- where an action changes a fluent that one of the two reads
abbrev pub help_by_reads : GExpr → GExpr → Help
help_by_reads left right = λ a. once_where (list_any (changes a) (reads_of left) || list_any (changes a) (reads_of right))

-- by the gain where that is a constant, and else where a fluent of the form is changed
abbrev pub help_by_gain : Linear → Decimal → Ground → Option Decimal → Option ℕ
help_by_gain f value a None = once_where (list_any (λ t. changes a t.0) f.terms)
help_by_gain f value a (Some gain) = repetitions f value gain

-- by the form of a comparison with its value, and else by what it reads
abbrev pub help_by_form : GExpr → GExpr → Option (Linear × Decimal) → Help
help_by_form left right None = help_by_reads left right
help_by_form left right (Some known) = λ a. help_by_gain known.0 known.1 a (gain_of known.0 a)

-- the form of a comparison with its value in a state, where it has both
abbrev pub valued_form : List ℕ → StateValue → Rel → GExpr → GExpr → Option (Linear × Decimal)
valued_form places s r left right =
    option_and_then (λ f. option_map (λ value. (f, value)) (form_value places s f)) (linear_form r left right)

-- one that is over has no form
abbrev pub help_by_truth : TaskValue → StateValue → Rel → GExpr → GExpr → Truth → Option Help
help_by_truth t s r left right truth.Yes = None
help_by_truth t s r left right truth.No = Some (help_by_form left right (valued_form t.places s r left right))
help_by_truth t s r left right truth.Over = Some (help_by_reads left right)

abbrev pub comparison_help : TaskValue → StateValue → Rel → GExpr → GExpr → Option Help
comparison_help t s r left right = help_by_truth t s r left right (ranged_truth t s (condition.Cmp r left right))

-- the atoms of a task in a state
abbrev pub atoms_in : TaskValue → StateValue → Atoms
atoms_in t s = record { literals = literal_help s; comparisons = comparison_help t s }
