-- The single effects of an action while they are gathered.
use Rattle.std.specs.Prelude.{ℕ, ◌+◌, ◌++◌, not, List, [], ◌∷◌, Option, Some, None, bytes_eq, codes, length, min, nat_lt, if◌then◌else◌}
use Rattle.std.specs.Option.{option_map_or}
use Rattle.pddl_terms.specs.declared.names.Atom.{Atom}
use Rattle.pddl_terms.specs.declared.expressions.Expr.{Expr}
use Rattle.pddl_terms.specs.declared.actions.Assign.{Assign}
use Rattle.pddl_terms.specs.declared.actions.Effect.{Effect}
use Rattle.pddl_terms.specs.declared.actions.Effect.TheVariants as effect
use Rattle.pddl_terms.specs.declared.limits.TheConstants.{MAX_EFFECTS}
use Rattle.pddl_expressions.specs.declared.found.Found.{Found}
use Rattle.pddl_expressions.specs.declared.found.Found.TheVariants.{Misfit, TooHigh, Fine}
use Rattle.pddl_actions.specs.declared.effects.Gathered.{Gathered}
use Rattle.pddl_actions.specs.declared.effects.Kind.{Kind}
use Rattle.pddl_actions.specs.declared.effects.Kind.TheVariants as kind
use Rattle.pddl_trees.specs.Words.{change_of}
use Rattle.pddl_trees.specs.Forms.{Effects, Form, Parsed}
use Rattle.pddl_trees.specs.Effects.{addition, all_effects, change, deletion}
use Rattle.pddl_actions.specs.Kept.{fitting, kept_of, past_of}

-- what is gathered of single effects
abbrev pub gathered_of : List (ℕ × Option Effect) → Gathered
gathered_of found = record { kept = kept_of found; count = min (length found) MAX_EFFECTS; past = past_of found }

abbrev pub no_effects : Gathered
no_effects = record { kept = []; count = 0; past = None }

abbrev pub with_kept : List Effect → Option Effect → List Effect
with_kept xs None = xs
with_kept xs (Some x) = xs ++ x ∷ []

abbrev pub with_past : ℕ → Option ℕ → Option ℕ
with_past at None = Some at
with_past at (Some p) = Some p

-- with one more at a position, which fits where it is there
abbrev pub with_fitting : Gathered → ℕ → Option Effect → Gathered
with_fitting g at x = record {
  kept = with_kept g.kept x;
  count = if nat_lt g.count MAX_EFFECTS then g.count + 1 else g.count;
  past = if nat_lt g.count MAX_EFFECTS then g.past else with_past at g.past;
}

abbrev pub with_effect : Gathered → ℕ × Option Effect → Gathered
with_effect g f = with_fitting g f.0 (fitting f.1)

abbrev pub changed_by : Assign → Option Atom → Found Expr → Option Effect
changed_by how None e = None
changed_by how (Some a) Misfit = None
changed_by how (Some a) TooHigh = None
changed_by how (Some a) (Fine e n) = Some (effect.Num how a e)

abbrev pub kind_of : Option (List ℕ) → Kind
kind_of None = kind.Addition
kind_of (Some w) =
    if bytes_eq w (codes "and") then kind.All
    else (if bytes_eq w (codes "not") then kind.Deletion
    else option_map_or kind.Change (change_of w) kind.Addition)

-- the effects that a list is by its kind, from the trees behind the first and the list as an atom
abbrev pub kind_said : ℕ → Kind → List Form → Parsed Atom → Effects
kind_said at kind.All ts a = all_effects ts
kind_said at kind.Deletion ts a = deletion at ts
kind_said at (kind.Change how) ts a = change at how ts
kind_said at kind.Addition ts a = addition at a
