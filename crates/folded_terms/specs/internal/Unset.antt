-- The fluents of a goal that have no first value.
use Rattle.std.specs.Prelude.{Bool, not, is_some, List, [], ◌∷◌, Option, None, find}
use Rattle.std.specs.Option.{option_or}
use Rattle.pddl_terms.specs.declared.conditions.Cond.{Cond}
use Rattle.pddl_types.specs.Contents.{all_read, condition_parts}
use Rattle.pddl_terms.specs.declared.names.Atom.{Atom}
use Rattle.pddl_types.specs.declared.pairs.Pair.{Pair}
use Rattle.static_facts.specs.Atoms.{atom_of, value_at_first}

abbrev pub is_unset : Pair → Atom → Bool
is_unset p a = not (is_some (value_at_first p (atom_of [] [] a)))

-- the first of some fluents that has no first value
abbrev pub first_unset : Pair → List Atom → Option Atom
first_unset p atoms = find (is_unset p) atoms

-- the first that one of some conditions reads
abbrev pub unset_among : Pair → List Cond → Option Atom
unset_among p [] = None
unset_among p (c ∷ cs) = option_or (first_unset p (all_read (condition_parts c).numbers)) (unset_among p cs)
