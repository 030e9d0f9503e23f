-- Ground atoms as lists of names, first that of the predicate or function and then those of the objects, and what is given of them at first.
use Rattle.std.specs.Prelude.{ℕ, ◌++◌, Bool, List, [], ◌∷◌, Option, map, codes, bytes_eq, find, option_map, slice_get}
use Rattle.std.specs.Option.{option_map_or}
use Rattle.std.specs.List.{list_any, join_with_byte}
use Rattle.std.specs.Cmp.Lexicographic.{pointwise}
use Rattle.num_ends.specs.Decimal.{Decimal, trimmed}
use Rattle.pddl_terms.specs.declared.names.Atom.{Atom}
use Rattle.pddl_terms.specs.declared.names.Name.{Name}
use Rattle.pddl_terms.specs.declared.names.Typed.{Typed}
use Rattle.pddl_terms.specs.declared.names.Sig.{Sig}
use Rattle.pddl_terms.specs.Texts.{argument_text}
use Rattle.name_table.specs.TypedLists.{names_of}
use Rattle.pddl_types.specs.declared.pairs.Pair.{Pair}
use Rattle.pddl_types.specs.Pairs.{heads_of, objects_of}

-- ---- names by numbers

-- the text of the name with a number; a number that no name has gets the empty text, which is no name
abbrev pub text_at : List Name → ℕ → List ℕ
text_at ns n = option_map_or (λ m. m.text) (slice_get ns n) []

-- the name of the object with a number
abbrev pub object_text : Pair → ℕ → List ℕ
object_text p o = text_at (names_of (objects_of p)) o

abbrev pub names : Pair → List ℕ → List (List ℕ)
names p os = map (object_text p) os

-- the name of the predicate or function with a number
abbrev pub head_text : List Sig → ℕ → List ℕ
head_text sigs n = text_at (heads_of sigs) n

-- ---- atoms

-- two atoms are the same
abbrev pub same_atom : List (List ℕ) → List (List ℕ) → Bool
same_atom = pointwise bytes_eq

-- an atom under a binding of parameters to the names of objects
abbrev pub atom_of : List Typed → List (List ℕ) → Atom → List (List ℕ)
atom_of params args a = a.head.text ∷ map (argument_text params args) a.args

-- the text of an atom, such as `(at truck depot)`
abbrev pub text_of_atom : List (List ℕ) → List ℕ
text_of_atom x = codes "(" ++ join_with_byte 32 x ++ codes ")"

-- the atom of the predicate with a number and the objects with these numbers
abbrev pub fact_atom : Pair → ℕ → List ℕ → List (List ℕ)
fact_atom p predicate os = head_text p.domain.predicates predicate ∷ names p os

-- the atom of the function with a number, likewise
abbrev pub fluent_atom : Pair → ℕ → List ℕ → List (List ℕ)
fluent_atom p function os = head_text p.domain.functions function ∷ names p os

-- ---- the initial state

-- a fact is true at first where `:init` has it
unfoldable pub is_true_at_first : Pair → List (List ℕ) → Bool
is_true_at_first p x = list_any (λ a. same_atom x (atom_of [] [] a)) p.problem.facts

-- the value that `:init` gives a fluent, trimmed
unfoldable pub value_at_first : Pair → List (List ℕ) → Option Decimal
value_at_first p x = option_map (λ v. trimmed v.1) (find (λ v. same_atom x (atom_of [] [] v.0)) p.problem.values)
