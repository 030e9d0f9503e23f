-- The parts of an action while they are read.
use Rattle.std.specs.Prelude.{ℕ, ◌≡◌, List, [], ◌∷◌, Option, option_map}
use Rattle.std.specs.Option.{option_copied}
use Rattle.sexp_text.specs.declared.trees.Tree.{Tree}
use Rattle.pddl_actions.specs.declared.clauses.Clause.TheVariants as clause
use Rattle.pddl_actions.specs.declared.clauses.ActionParts.{ActionParts}
use Rattle.pddl_actions.specs.declared.clauses.ClauseReading.{ClauseReading}
use Rattle.pddl_trees.specs.declared.faults.Fault.{Fault}
use Rattle.pddl_trees.specs.Faults.{all_noted}
use Rattle.pddl_trees.specs.Actions.{Clause, Clauses, Params, Pre, Eff, clauses_from}

abbrev pub clause_said : Rattle.pddl_actions.specs.declared.clauses.Clause.Clause → Clause
clause_said clause.Parameters = Params
clause_said clause.Precondition = Pre
clause_said clause.Effect = Eff

-- these parts, and no fault
abbrev pub clauses_of : ActionParts → Clauses
clauses_of parts = record {
  parameters = option_copied parts.parameters;
  precondition = option_copied parts.precondition;
  effect = option_copied parts.effect;
  faults = [];
}

-- the parts of an action at a position from here on, with those that were found
abbrev pub clauses_with : ClauseReading → List ℕ → ℕ → List Tree → Clauses
clauses_with r text at ts = clauses_from text at (option_map clause_said r.keyword) (clauses_of r.parts) ts

-- the same parts
pub record AreParts (parts : ActionParts) (c : Clauses) : Type 0 where
  pub parameters : option_copied parts.parameters ≡ c.parameters
  pub precondition : option_copied parts.precondition ≡ c.precondition
  pub effect : option_copied parts.effect ≡ c.effect

-- the same parts, where faults were noted before each
pub record AreSameClauses (first : Option Fault) (c : Clauses) (first_behind : Option Fault) (d : Clauses) : Type 0 where
  pub parameters : d.parameters ≡ c.parameters
  pub precondition : d.precondition ≡ c.precondition
  pub effect : d.effect ≡ c.effect
  pub faults : all_noted first_behind d.faults ≡ all_noted first c.faults

-- a tree was taken: with the rest of any list the parts and faults are those before it with the tree and that rest
abbrev pub IsClauseTaken : List ℕ → Tree → ClauseReading → Option Fault → ClauseReading → Option Fault → Type 0
IsClauseTaken text t before first behind first_behind =
    (at : ℕ) (ts : List Tree) → AreSameClauses first (clauses_with before text at (t ∷ ts)) first_behind (clauses_with behind text at ts)
