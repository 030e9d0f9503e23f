-- The initial world of a pair stands at the initial states of its task.
use Rattle.std.proofs.Common.{◌≡◌, ◌<◌, ◌&&◌, ◌==◌, ℕ, Bool, true, List, [], ◌∷◌, length, Option, Some, None, is_some, slice_index_or, refl, sym, ap, subst, ◌∙◌, arith}
use Rattle.std.specs.Prelude.{filter, find, option_map, unwrap_or}
use Rattle.std.specs.List.{list_any, range_with_len}
use Rattle.std.specs.FinSet as set
use Rattle.std.specs.FinMap as finite
use Rattle.std.proofs.lemmas.List.{get_or-map}
use Rattle.num_ends.specs.Decimal.{Decimal, origin, trimmed}
use Rattle.num_ends.proofs.Trimmed.{same_trimmed, trimmed_twice}
use Rattle.pddl_terms.specs.declared.names.Atom.{Atom}
use Rattle.pddl_terms.specs.Readable.{IsReadable}
use Rattle.pddl_types.specs.declared.pairs.Pair.{Pair}
use Rattle.pddl_types.specs.WellFormed.{WellFormed}
use Rattle.static_facts.specs.Atoms.{atom_of, is_true_at_first, same_atom, text_of_atom, value_at_first}
use Rattle.static_facts.specs.Codes.{fluent_code}
use Rattle.pddl_meaning.specs.Worlds.{initial_world}
use Rattle.ground_task.specs.Meaning.{fact_value, fluent_value}
use Rattle.ground_task.specs.States.{StateValue}
use Rattle.ground_task.specs.Tasks.{IsInitialState, TaskValue}
use Rattle.ground_meaning.specs.Tasks.{IsFact, IsFluent, IsGroundTask, first_value}
use Rattle.ground_meaning.specs.Worlds.{StandsAt}
use Rattle.ground_meaning.proofs.CodedAtoms.{same_code}
use Rattle.ground_meaning.proofs.InitialWorld.{initial_fact, initial_value}
use Rattle.ground_meaning.proofs.KeptActions.{stands_map}
use Rattle.ground_meaning.proofs.KeptAtoms.{relevant_set}
use Rattle.ground_meaning.proofs.LegalArguments.{in_range}
use Rattle.ground_meaning.proofs.Names.{names_are_words}
use Rattle.ground_meaning.proofs.NextFacts.{listed_kept}
use Rattle.ground_meaning.proofs.ReadyEffects.{atom_named}
use Rattle.ground_meaning.proofs.Standing.{as_many_facts, as_many_fluents, fact_text, fluent_text}
use Rattle.ground_meaning.proofs.Transition.{stands_index, stands_listed}

-- of the numbers below a count, those that pass a test are listed
listed_first : (test : ℕ → Bool) (count n : ℕ) → n < count → list_any (λ g. g == n) (filter test (range_with_len 0 count)) ≡ test n
listed_first test count n within =
    listed_kept n test (range_with_len 0 count)
    ∙ ap (λ (b : Bool). b && test n) (stands_listed n (range_with_len 0 count) (in_range 0 count n (omega arith) (omega (arith, within))))

module _ (p : Pair) (readable : IsReadable p.domain p.problem) where
  fact_at_first : (y : List (List ℕ)) → IsFact p y → set.contains (initial_world p).facts (text_of_atom y) ≡ is_true_at_first p y
  fact_at_first [] is = let bad = is.is in cc
  fact_at_first (h ∷ hs) is = initial_fact h hs (names_are_words (h ∷ hs) (atom_named p readable p.domain.predicates readable.domain.predicates (h ∷ hs) is)) p readable.problem.facts

  fluent_at_first : (y : List (List ℕ)) → IsFluent p y → finite.get (initial_world p).values (text_of_atom y) ≡ value_at_first p y
  fluent_at_first [] is = let bad = is.is in cc
  fluent_at_first (h ∷ hs) is = initial_value h hs (names_are_words (h ∷ hs) (atom_named p readable p.domain.functions readable.domain.functions (h ∷ hs) is)) p readable.problem.values

  -- a value that is there, which is trimmed
  value_there : (y : List (List ℕ)) → is_some (value_at_first p y) ≡ true → value_at_first p y ≡ Some (trimmed (first_value p y))
  unfolding value_at_first
  value_there y set = of_found (find (λ v. same_atom y (atom_of [] [] v.0)) p.problem.values) set
    where
      of_found : (found : Option (Atom × Decimal)) → is_some (option_map (λ (v : Atom × Decimal). trimmed v.1) found) ≡ true
          → option_map (λ (v : Atom × Decimal). trimmed v.1) found ≡ Some (trimmed (unwrap_or (option_map (λ (v : Atom × Decimal). trimmed v.1) found) origin))
      of_found None h = cc
      of_found (Some v) h = ap Some (sym (trimmed_twice v.1))

  module _ (formed : WellFormed p) (t : TaskValue) (task : IsGroundTask p t.raw) (st : StateValue) (is : IsInitialState t st) where
    initial_facts : (f : ℕ) → f < length t.raw.facts → set.contains (initial_world p).facts (slice_index_or t.raw.facts f []) ≡ fact_value st f
    initial_facts f within =
        let inside : f < length task.facts = omega (arith, within, as_many_facts p readable t task) in
        let y = slice_index_or task.facts f [] in
        ap (set.contains (initial_world p).facts) (fact_text p readable t task f inside)
        ∙ fact_at_first y (task.all_facts.are_atoms f [] inside)
        ∙ sym (is.facts f within ∙ ap (λ (fs : List ℕ). list_any (λ g. g == f) fs) task.true_facts
        ∙ listed_first (λ n. is_true_at_first p (slice_index_or task.facts n [])) (length task.facts) f inside)

    -- each fluent of the task has a first value
    first_set : (x : ℕ) → x < length task.fluents → is_some (value_at_first p (slice_index_or task.fluents x [])) ≡ true
    first_set x inside =
        let y = slice_index_or task.fluents x [] in
        let listed = stands_map (fluent_code p) task.fluents y (stands_index task.fluents x [] inside) in
        let code = relevant_set p readable formed task.goal task.folds.all_set task.folds.folds (fluent_code p y) ((task.all_fluents.exactly (fluent_code p y)).0 listed) in
        let same = same_code p readable p.domain.functions code.atom y code.is_atom.is_fluent (task.all_fluents.are_atoms x [] inside) code.coded in
        subst (λ (z : List (List ℕ)). is_some (value_at_first p z) ≡ true) same code.is_atom.set

    initial_fluents : (x : ℕ) → x < length t.raw.fluents → finite.get (initial_world p).values (slice_index_or t.raw.fluents x []) ≡ Some (trimmed (fluent_value t.places st x))
    initial_fluents x within =
        let inside : x < length task.fluents = omega (arith, within, as_many_fluents p readable t task) in
        let y = slice_index_or task.fluents x [] in
        let value = ap (λ (vs : List Decimal). slice_index_or vs x origin) task.values ∙ get_or-map (first_value p) task.fluents x [] origin inside in
        ap (finite.get (initial_world p).values) (fluent_text p readable t task x inside)
        ∙ fluent_at_first y (task.all_fluents.are_atoms x [] inside)
        ∙ value_there y (first_set x inside)
        ∙ ap Some (sym (same_trimmed (fluent_value t.places st x) (slice_index_or t.raw.values x origin) (is.values x within) ∙ ap trimmed value))

-- the initial world stands at each initial state
pub initial_stands : (p : Pair) (readable : IsReadable p.domain p.problem) (formed : WellFormed p) (t : TaskValue) → IsGroundTask p t.raw → (st : StateValue) → IsInitialState t st
    → StandsAt p t (initial_world p) st
initial_stands p readable formed t task st is = record {
  like = record { fixed_facts = λ head objects named fixed. refl; fixed_values = λ head objects named fixed. refl; defined = λ x. refl };
  sizes = is.sizes;
  facts = initial_facts p readable formed t task st is;
  fluents = initial_fluents p readable formed t task st is;
}
