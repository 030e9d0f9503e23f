-- In a world that stands at a state, the facts and fluents of the task have the state's values.
use Rattle.std.proofs.Common.{◌≡◌, ◌<◌, ℕ, Bool, List, [], map, length, Some, slice_index_or, sym, ap, ◌∙◌, arith}
use Rattle.std.specs.FinSet as set
use Rattle.std.specs.FinMap as finite
use Rattle.std.proofs.lemmas.List.{get_or-map, length-map}
use Rattle.num_ends.specs.Decimal.{Decimal, trimmed}
use Rattle.pddl_terms.specs.Readable.{IsReadable}
use Rattle.pddl_types.specs.declared.pairs.Pair.{Pair}
use Rattle.pddl_types.specs.WellFormed.{Stands}
use Rattle.static_facts.specs.Atoms.{text_of_atom}
use Rattle.static_facts.specs.Codes.{fact_code, fluent_code}
use Rattle.pddl_meaning.specs.Worlds.{WorldValue}
use Rattle.ground_task.specs.Meaning.{fact_value, fluent_value}
use Rattle.ground_task.specs.States.{StateValue}
use Rattle.ground_task.specs.Tasks.{TaskValue}
use Rattle.ground_meaning.specs.Tasks.{IsFact, IsFluent, IsGroundTask, number_in}
use Rattle.ground_meaning.specs.Worlds.{StandsAt}
use Rattle.ground_meaning.proofs.Listed.{atom_found}

module _ (p : Pair) (readable : IsReadable p.domain p.problem) (t : TaskValue) (task : IsGroundTask p t.raw) where
  abbrev pub fact_codes : List ℕ
  fact_codes = map (fact_code p) task.facts

  abbrev pub fluent_codes : List ℕ
  fluent_codes = map (fluent_code p) task.fluents

  pub as_many_facts : length t.raw.facts ≡ length task.facts
  as_many_facts = ap length task.fact_texts ∙ length-map task.facts text_of_atom

  pub as_many_fluents : length t.raw.fluents ≡ length task.fluents
  as_many_fluents = ap length task.fluent_texts ∙ length-map task.fluents text_of_atom

  pub fact_text : (n : ℕ) → n < length task.facts → slice_index_or t.raw.facts n [] ≡ text_of_atom (slice_index_or task.facts n [])
  fact_text n h = ap (λ (ts : List (List ℕ)). slice_index_or ts n []) task.fact_texts ∙ get_or-map text_of_atom task.facts n [] [] h

  pub fluent_text : (n : ℕ) → n < length task.fluents → slice_index_or t.raw.fluents n [] ≡ text_of_atom (slice_index_or task.fluents n [])
  fluent_text n h = ap (λ (ts : List (List ℕ)). slice_index_or ts n []) task.fluent_texts ∙ get_or-map text_of_atom task.fluents n [] [] h

  module _ (w : WorldValue) (st : StateValue) (at : StandsAt p t w st) where
    -- the state's truth values and values by codes
    abbrev pub state_facts : ℕ → Bool
    state_facts code = fact_value st (number_in fact_codes code)

    abbrev pub state_values : ℕ → Decimal
    state_values code = fluent_value t.places st (number_in fluent_codes code)

    pub fact_stands : (x : List (List ℕ)) → IsFact p x → Stands (fact_code p x) fact_codes → set.contains w.facts (text_of_atom x) ≡ state_facts (fact_code p x)
    fact_stands x is s =
        let found = atom_found p readable p.domain.predicates task.facts task.all_facts.are_atoms x is s in
        let n = number_in fact_codes (fact_code p x) in
        let text = fact_text n found.0 ∙ ap text_of_atom found.1 in
        sym (ap (set.contains w.facts) text) ∙ at.facts n (omega (arith, as_many_facts, found.0))

    pub fluent_stands : (x : List (List ℕ)) → IsFluent p x → Stands (fluent_code p x) fluent_codes → finite.get w.values (text_of_atom x) ≡ Some (trimmed (state_values (fluent_code p x)))
    fluent_stands x is s =
        let found = atom_found p readable p.domain.functions task.fluents task.all_fluents.are_atoms x is s in
        let n = number_in fluent_codes (fluent_code p x) in
        let text = fluent_text n found.0 ∙ ap text_of_atom found.1 in
        sym (ap (finite.get w.values) text) ∙ at.fluents n (omega (arith, as_many_fluents, found.0))
