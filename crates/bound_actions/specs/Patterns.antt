-- An action with its names looked up: patterns of what it reads and changes.
use Rattle.std.specs.Prelude.{ℕ, ◌≡◌, ◌<◌, ◌==◌, Bool, not, List, [], ◌∷◌, map, flat_map, length, is_some}
use Rattle.pddl_terms.specs.declared.names.Atom.{Atom}
use Rattle.pddl_terms.specs.declared.names.Typed.{Typed}
use Rattle.pddl_terms.specs.declared.expressions.Expr.{Expr}
use Rattle.pddl_terms.specs.declared.conditions.Cond.{Cond}
use Rattle.pddl_terms.specs.declared.actions.Assign.TheVariants as how
use Rattle.pddl_terms.specs.declared.actions.Effect.{Effect}
use Rattle.pddl_terms.specs.declared.actions.Effect.TheVariants as effect
use Rattle.pddl_terms.specs.declared.actions.Schema.{Schema}
use Rattle.pddl_terms.specs.Readable.{IsReadable}
use Rattle.pddl_types.specs.declared.pairs.Pair.{Pair}
use Rattle.pddl_types.specs.Contents.{all_read, condition_parts, expression_reads}
use Rattle.pddl_types.specs.Pairs.{objects_of}
use Rattle.pddl_types.specs.WellFormed.{Each, Stands, WellFormed}
use Rattle.static_facts.specs.Atoms.{atom_of, names, value_at_first}
use Rattle.static_facts.specs.Codes.{fact_code, fluent_code}
use Rattle.bound_actions.specs.Reads.{action_reads, are_apart, clashes, is_set}

-- ---- patterns

-- contracts see a pattern as the pair, the parameters and the atom
abbrev pub pattern : Pair → List Typed → Atom → Pair × List Typed × Atom
pattern p params a = (p, params, a)

abbrev pub patterns : Pair → List Typed → List Atom → List (Pair × List Typed × Atom)
patterns p params atoms = map (pattern p params) atoms

abbrev pub pattern_pair : Pair → List Typed → Atom × Atom → (Pair × List Typed × Atom) × (Pair × List Typed × Atom)
pattern_pair p params c = (pattern p params c.0, pattern p params c.1)

abbrev pub expression_patterns : Pair → List Typed → Expr → List (Pair × List Typed × Atom)
expression_patterns p params x = patterns p params (expression_reads x).all

abbrev pub condition_patterns : Pair → List Typed → Cond → List (Pair × List Typed × Atom)
condition_patterns p params c = patterns p params (all_read (condition_parts c).numbers)

-- ---- under a binding

-- there are as many objects as parameters, and each is one of the pair
abbrev pub IsBoundBy : List ℕ → Pair × List Typed × Atom → Type 0
IsBoundBy os q = (length os ≡ length q.1) × Each (λ o. o < length (objects_of q.0)) os

abbrev pub AreBoundBy : List ℕ → (Pair × List Typed × Atom) × (Pair × List Typed × Atom) → Type 0
AreBoundBy os c = IsBoundBy os c.0 × IsBoundBy os c.1

abbrev pub is_set_by : List ℕ → Pair × List Typed × Atom → Bool
is_set_by os q = is_some (value_at_first q.0 (atom_of q.1 (names q.0 os) q.2))

abbrev pub fluent_code_by : List ℕ → Pair × List Typed × Atom → ℕ
fluent_code_by os q = fluent_code q.0 (atom_of q.1 (names q.0 os) q.2)

abbrev pub fact_code_by : List ℕ → Pair × List Typed × Atom → ℕ
fact_code_by os q = fact_code q.0 (atom_of q.1 (names q.0 os) q.2)

abbrev pub are_apart_by : List ℕ → (Pair × List Typed × Atom) × (Pair × List Typed × Atom) → Bool
are_apart_by os c = not (fluent_code_by os c.0 == fluent_code_by os c.1)

-- ---- the parts of an action

-- the action is one of a pair that was checked
pub record IsAction (p : Pair) (s : Schema) : Type 0 where
  pub readable : IsReadable p.domain p.problem
  pub well_formed : WellFormed p
  pub stands : Stands s p.domain.schemas

-- patterns of the fluents that an action reads, and of those that mustn't be one fluent
pub record IsReadiness (p : Pair) (s : Schema) (read : List (Pair × List Typed × Atom)) (distinct : List ((Pair × List Typed × Atom) × (Pair × List Typed × Atom))) : Type 0 where
  pub of_pair : IsAction p s
  pub reads : read ≡ patterns p s.params (action_reads s)
  pub apart : distinct ≡ map (pattern_pair p s.params) (clashes s.effects)

-- ---- facts

abbrev pub added : Effect → List Atom
added (effect.Add a) = a ∷ []
added (effect.Del a) = []
added (effect.Num how a x) = []

abbrev pub deleted : Effect → List Atom
deleted (effect.Add a) = []
deleted (effect.Del a) = a ∷ []
deleted (effect.Num how a x) = []

-- patterns of the facts that an action adds, and of those that it deletes
pub record AreFactPatterns (p : Pair) (s : Schema) (first second : List (Pair × List Typed × Atom)) : Type 0 where
  pub adds : first ≡ patterns p s.params (flat_map added s.effects)
  pub dels : second ≡ patterns p s.params (flat_map deleted s.effects)

-- ---- assigned fluents

abbrev pub assigned : Effect → List Atom
assigned (effect.Add a) = []
assigned (effect.Del a) = []
assigned (effect.Num how.Set a x) = a ∷ []
assigned (effect.Num how.Up a x) = []
assigned (effect.Num how.Down a x) = []
assigned (effect.Num how.Scale a x) = []

-- a pattern beside its atom
abbrev pub pattern_with : Pair → List Typed → Atom → (Pair × List Typed × Atom) × Atom
pattern_with p params a = (pattern p params a, a)
