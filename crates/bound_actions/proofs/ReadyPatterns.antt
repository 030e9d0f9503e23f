-- Whether an action is ready, by its patterns.
use Rattle.std.proofs.Common.{◌≡◌, ◌<◌, ◌&&◌, ℕ, Bool, List, length, map, sym, ap, ap₂, subst, ◌∙◌}
use Rattle.std.specs.List.{list_all}
use Rattle.std.proofs.lemmas.List.Folds.{list_all-map}
use Rattle.pddl_terms.specs.declared.names.Atom.{Atom}
use Rattle.pddl_terms.specs.declared.names.Typed.{Typed}
use Rattle.pddl_terms.specs.declared.actions.Schema.{Schema}
use Rattle.pddl_types.specs.declared.pairs.Pair.{Pair}
use Rattle.pddl_types.specs.Pairs.{objects_of}
use Rattle.pddl_types.specs.WellFormed.{Each}
use Rattle.static_facts.specs.Atoms.{names}
use Rattle.pddl_meaning.specs.Worlds.{initial_world}
use Rattle.pddl_meaning.specs.Steps.{is_ready}
use Rattle.bound_actions.specs.Reads.{action_reads, clashes}
use Rattle.bound_actions.specs.Patterns.{AreBoundBy, IsBoundBy, IsReadiness, are_apart_by, is_set_by, pattern, pattern_pair}
use Rattle.bound_actions.proofs.Members.{all_bound, known_in, many_in, pairs_bound}
use Rattle.bound_actions.proofs.ReadyAtoms.{ready_at_first}

module _ (p : Pair) (s : Schema) (reads : List (Pair × List Typed × Atom)) (apart : List ((Pair × List Typed × Atom) × (Pair × List Typed × Atom))) (is : IsReadiness p s reads apart) (os : List ℕ) (as_many : length os ≡ length s.params) (known : Each (λ o. o < length (objects_of p)) os) where
  pub reads_bound : Each (IsBoundBy os) reads
  reads_bound = subst (Each (IsBoundBy os)) (sym is.reads) (all_bound p s.params os as_many known (action_reads s))

  pub apart_bound : Each (AreBoundBy os) apart
  apart_bound = subst (Each (AreBoundBy os)) (sym is.apart) (pairs_bound p s.params os as_many known (clashes s.effects))

  pub ready_by_patterns : (list_all (is_set_by os) reads && list_all (are_apart_by os) apart) ≡ is_ready s (names p os) (initial_world p)
  ready_by_patterns =
      ap₂ (λ (a b : Bool). a && b) (ap (list_all (is_set_by os)) is.reads ∙ list_all-map (is_set_by os) (pattern p s.params) (action_reads s))
      (ap (list_all (are_apart_by os)) is.apart ∙ list_all-map (are_apart_by os) (pattern_pair p s.params) (clashes s.effects))
      ∙ ready_at_first p is.of_pair.readable is.of_pair.well_formed s is.of_pair.stands os known as_many

-- seen from the value of a part
pub ready_of : (p : Pair) (s : Schema) (w : Pair × Schema) → (p, s) ≡ w → (os : List ℕ) (reads : List (Pair × List Typed × Atom)) (apart : List ((Pair × List Typed × Atom) × (Pair × List Typed × Atom)))
    → IsReadiness p s reads apart → length os ≡ length w.1.params → Each (λ o. o < length (objects_of w.0)) os
    → (list_all (is_set_by os) reads && list_all (are_apart_by os) apart) ≡ is_ready w.1 (names w.0 os) (initial_world w.0)
ready_of p s w view os reads apart is as_many known =
    ready_by_patterns p s reads apart is os (many_in p s w view os as_many) (known_in p s w view os known)
    ∙ ap (λ (z : Pair × Schema). is_ready z.1 (names z.0 os) (initial_world z.0)) view
