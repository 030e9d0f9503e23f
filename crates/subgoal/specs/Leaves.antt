-- For contracts inside this crate alone: what is known of an atom in every state.
use Rattle.std.specs.Prelude.{ℕ, ◌+◌, ◌||◌, Bool, List, [], ◌∷◌, Option, Some, None, map, slice_get, if◌then◌else◌}
use Rattle.std.specs.List.{list_any}
use Rattle.std.specs.Option.{option_and_then}
use Rattle.num_ends.specs.Decimal.{Decimal}
use Rattle.ground_task.specs.declared.raw.Rel.{Rel}
use Rattle.ground_task.specs.declared.raw.GExpr.{GExpr}
use Rattle.ground_task.specs.declared.raw.Ground.{Ground}
use Rattle.simple_atoms.specs.declared.linear.Linear.{Linear}
use Rattle.simple_atoms.specs.declared.linear.TheConstants.{FAR}
use Rattle.simple_atoms.specs.Forms.{linear_form}
use Rattle.simple_atoms.specs.Values.{gain_of}
use Rattle.subgoal.specs.declared.leaves.Leaf.{Leaf}
use Rattle.subgoal.specs.Equations.{Help, reached_by}
use Rattle.subgoal.specs.Help.{changes, makes, reads_of}

-- the numbers from a first one of the actions that pass a test
unfoldable pub numbers_of : (Ground → Bool) → ℕ → List Ground → List ℕ
numbers_of test first [] = []
numbers_of test first (a ∷ actions) = if test a then first ∷ numbers_of test (first + 1) actions else numbers_of test (first + 1) actions

abbrev pub changes_form : Option Linear → Ground → Bool
changes_form None a = list_any (changes a) []
changes_form (Some f) a = list_any (λ t. changes a t.0) f.terms

-- an action may help a comparison: it changes a fluent that is read, or one of the form
abbrev pub may_help : GExpr → GExpr → Option Linear → Ground → Bool
may_help left right form a = (list_any (changes a) (reads_of left) || list_any (changes a) (reads_of right)) || changes_form form a

-- the gain of a form by the action of this number
abbrev pub gain_at : List Ground → Linear → ℕ → Option Decimal
gain_at actions f i = option_and_then (gain_of f) (slice_get actions i)

-- the gains of a form by the actions of these numbers
abbrev pub gains_by : List Ground → Option Linear → List ℕ → List (Option Decimal)
gains_by actions None helpers = []
gains_by actions (Some f) helpers = map (gain_at actions f) helpers

abbrev pub literal_leaf : List Ground → ℕ → Bool → Leaf
literal_leaf actions f truth = record { form = None; helpers = numbers_of (makes f truth) 0 actions; gains = [] }

abbrev pub comparison_leaf : List Ground → Rel → GExpr → GExpr → Leaf
comparison_leaf actions r left right = record {
  form = linear_form r left right;
  helpers = numbers_of (may_help left right (linear_form r left right)) 0 actions;
  gains = gains_by actions (linear_form r left right) (numbers_of (may_help left right (linear_form r left right)) 0 actions);
}

-- ---- the least over the helpers

abbrev pub reached_in : Help → Option Ground → Option ℕ → ℕ
reached_in help None n = FAR
reached_in help (Some a) None = FAR
reached_in help (Some a) (Some n) = reached_by (help a) n

-- what the action of this number reaches
abbrev pub reached_at : Help → List Ground → List ℕ → ℕ → ℕ
reached_at help actions values i = reached_in help (slice_get actions i) (slice_get values i)
