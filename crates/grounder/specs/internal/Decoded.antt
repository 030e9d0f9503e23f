-- Atoms read back from their codes.
use Rattle.std.specs.Prelude.{ℕ, zero, suc, ◌/◌, ◌%◌, ◌++◌, List, [], ◌∷◌}
use Rattle.pddl_types.specs.declared.pairs.Pair.{Pair}
use Rattle.static_facts.specs.Atoms.{fact_atom, fluent_atom}

-- what stands before the last digits of a code
abbrev pub before_digits : ℕ → ℕ → ℕ
before_digits zero code = code
before_digits (suc digits) code = before_digits digits (code / 4096)

-- the object of a digit
abbrev pub digit_object : ℕ → List ℕ
digit_object zero = []
digit_object (suc o) = o ∷ []

-- the objects of the last digits
abbrev pub digit_objects : ℕ → ℕ → List ℕ
digit_objects zero code = []
digit_objects (suc digits) code = digit_objects digits (code / 4096) ++ digit_object (code % 4096)

-- the number of the predicate or function, and those of the objects
unfoldable pub symbol_of : ℕ → ℕ
symbol_of code = before_digits 8 code

unfoldable pub objects_in : ℕ → List ℕ
objects_in code = digit_objects 8 code

abbrev pub fact_of : Pair → ℕ → List (List ℕ)
fact_of p code = fact_atom p (symbol_of code) (objects_in code)

abbrev pub fluent_of : Pair → ℕ → List (List ℕ)
fluent_of p code = fluent_atom p (symbol_of code) (objects_in code)
