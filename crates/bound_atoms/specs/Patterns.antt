-- Patterns of atoms: names looked up in a pair that was checked.
use Rattle.std.specs.Prelude.{◌≡◌, List}
use Rattle.pddl_terms.specs.declared.names.Atom.{Atom}
use Rattle.pddl_terms.specs.declared.names.Typed.{Typed}
use Rattle.pddl_terms.specs.Readable.{IsReadable}
use Rattle.pddl_types.specs.declared.pairs.Pair.{Pair}
use Rattle.pddl_types.specs.WellFormed.{WellFormed}
use Rattle.bound_atoms.specs.declared.atoms.AtomSlots.{AtomSlots}
use Rattle.bound_atoms.specs.Atoms.{fact_slots, fluent_slots}

-- the pair was checked, and its static facts are those that are asked
pub record IsOfPair (p statics : Pair) : Type 0 where
  pub one_pair : statics ≡ p
  pub readable : IsReadable p.domain p.problem
  pub well_formed : WellFormed p

-- a fact of the pair with its names looked up
pub record IsFactPattern (p statics : Pair) (params : List Typed) (a : Atom) (q : AtomSlots) : Type 0 where
  pub of_pair : IsOfPair p statics
  pub is : q ≡ fact_slots p params a

-- a fluent of the pair, likewise
pub record IsFluentPattern (p statics : Pair) (params : List Typed) (a : Atom) (q : AtomSlots) : Type 0 where
  pub of_pair : IsOfPair p statics
  pub is : q ≡ fluent_slots p params a
