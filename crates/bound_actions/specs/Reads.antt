-- What an action reads, and which of its effects may be in conflict, as lists of atoms.
use Rattle.std.specs.Prelude.{ℕ, ◌&&◌, ◌||◌, ◌==◌, ◌++◌, Bool, not, List, [], ◌∷◌, bytes_eq, flat_map, is_some, if◌then◌else◌}
use Rattle.std.specs.List.{list_all}
use Rattle.pddl_terms.specs.declared.names.Atom.{Atom}
use Rattle.pddl_terms.specs.declared.names.Typed.{Typed}
use Rattle.pddl_terms.specs.declared.actions.Assign.{Assign}
use Rattle.pddl_terms.specs.declared.actions.Effect.{Effect}
use Rattle.pddl_terms.specs.declared.actions.Effect.TheVariants as effect
use Rattle.pddl_terms.specs.declared.actions.Schema.{Schema}
use Rattle.pddl_types.specs.declared.pairs.Pair.{Pair}
use Rattle.pddl_types.specs.Contents.{all_read, condition_parts, expression_reads}
use Rattle.static_facts.specs.Atoms.{atom_of, value_at_first}
use Rattle.static_facts.specs.Codes.{fluent_code}
use Rattle.pddl_meaning.specs.Effects.{is_joined, reads_old}

-- ---- reads

-- the changed fluent, where its old value is needed
abbrev pub old_read : Assign → Atom → List Atom
old_read how a = if reads_old how then a ∷ [] else []

-- the fluents that an effect reads
abbrev pub effect_reads : Effect → List Atom
effect_reads (effect.Add a) = []
effect_reads (effect.Del a) = []
effect_reads (effect.Num how a x) = (expression_reads x).all ++ old_read how a

-- the fluents that an action reads
abbrev pub action_reads : Schema → List Atom
action_reads s = all_read (condition_parts s.pre).numbers ++ flat_map effect_reads s.effects

-- ---- conflicts

-- effects on two fluents of one function, of which at most one may change the same fluent
abbrev pub may_clash : Assign → Atom → Assign → Atom → Bool
may_clash how a other b = not (is_joined how && is_joined other) && bytes_eq a.head.text b.head.text

abbrev pub clash_with : Assign → Atom → Effect → List (Atom × Atom)
clash_with how a (effect.Add b) = []
clash_with how a (effect.Del b) = []
clash_with how a (effect.Num other b x) = if may_clash how a other b then (a, b) ∷ [] else []

abbrev pub clash : Effect → Effect → List (Atom × Atom)
clash (effect.Add a) e = []
clash (effect.Del a) e = []
clash (effect.Num how a x) e = clash_with how a e

-- the pairs of fluents, each of an effect and of a later one, that mustn't be one fluent
abbrev pub clashes : List Effect → List (Atom × Atom)
clashes [] = []
clashes (e ∷ effects) = flat_map (clash e) effects ++ clashes effects

-- ---- under a binding

-- the fluent has a first value
abbrev pub is_set : Pair → List Typed → List (List ℕ) → Atom → Bool
is_set p params args a = is_some (value_at_first p (atom_of params args a))

-- the two are different fluents
abbrev pub are_apart : Pair → List Typed → List (List ℕ) → Atom × Atom → Bool
are_apart p params args c = not (fluent_code p (atom_of params args c.0) == fluent_code p (atom_of params args c.1))

-- each fluent that is read has a first value, and no effects are in conflict
abbrev pub is_ready_at_first : Pair → Schema → List (List ℕ) → Bool
is_ready_at_first p s args = list_all (is_set p s.params args) (action_reads s) && list_all (are_apart p s.params args) (clashes s.effects)
