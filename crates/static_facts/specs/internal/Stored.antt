-- What is kept of a pair, and found by numbers.
use Rattle.std.specs.Prelude.{ℕ, ◌≡◌, Bool, false, true, List, Option, option_and_then, slice_get, unwrap_or}
use Rattle.std.specs.Option.{option_map_or}
use Rattle.num_ends.specs.Decimal.{Decimal}
use Rattle.pddl_types.specs.declared.pairs.Pair.{Pair}
use Rattle.static_facts.specs.Atoms.{fact_atom, fluent_atom, head_text, is_true_at_first, value_at_first}
use Rattle.static_facts.specs.Codes.{coded}
use Rattle.static_facts.specs.Fixed.{is_fixed_function, is_fixed_predicate}

-- by its number whether a predicate or a function is fixed, and by its code what is given of an atom at first
pub record IsStored (p : Pair) (predicates functions : List Bool) (facts : ℕ → Bool) (values : ℕ → Option Decimal) : Type 0 where
  pub fixed_predicates : (n : ℕ) → unwrap_or (slice_get predicates n) true ≡ is_fixed_predicate p (head_text p.domain.predicates n)
  pub fixed_functions : (n : ℕ) → unwrap_or (slice_get functions n) true ≡ is_fixed_function p (head_text p.domain.functions n)
  pub true_facts : (n : ℕ) (os : List ℕ) → option_map_or facts (coded n os) false ≡ is_true_at_first p (fact_atom p n os)
  pub first_values : (n : ℕ) (os : List ℕ) → option_and_then values (coded n os) ≡ value_at_first p (fluent_atom p n os)
