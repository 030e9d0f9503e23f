-- What is known of an atom by its slots is what holds of the atom under the binding.
use Rattle.std.proofs.Common.{◌≡◌, ◌<◌, ◌&&◌, ℕ, Bool, true, false, List, ◌∷◌, length, Option, Some, None, map, refl, sym, ap, ap₂, ◌∙◌, is_some, if◌then◌else◌}
use Rattle.std.specs.Prelude.{nat_le, unwrap_or}
use Rattle.std.specs.List.{list_all}
use Rattle.std.proofs.lemmas.Bool.{and_parts}
use Rattle.std.proofs.lemmas.List.{length-map}
use Rattle.pddl_terms.specs.declared.names.Atom.{Atom}
use Rattle.pddl_terms.specs.declared.names.Sig.{Sig}
use Rattle.pddl_terms.specs.declared.names.Typed.{Typed}
use Rattle.pddl_terms.specs.Readable.{IsReadable}
use Rattle.pddl_terms.specs.Texts.{argument_text}
use Rattle.name_table.specs.Tables.{place_in}
use Rattle.pddl_types.specs.declared.pairs.Pair.{Pair}
use Rattle.pddl_types.specs.Pairs.{heads_of, objects_of}
use Rattle.pddl_types.specs.WellFormed.{Each, WellFormed}
use Rattle.static_facts.specs.Atoms.{atom_of, fact_atom, fluent_atom, head_text, is_true_at_first, names, value_at_first}
use Rattle.static_facts.specs.Codes.{code_of, fact_code, fluent_code}
use Rattle.static_facts.proofs.Named.{named_there}
use Rattle.bound_atoms.specs.Atoms.{fact_slots, fluent_slots, may_be_given, slots_code, slots_truth, slots_value}
use Rattle.bound_atoms.specs.Slots.{is_object, slot_number, slot_of}
use Rattle.bound_atoms.proofs.Arguments.{all_found, numbers_for, texts_for}
use Rattle.bound_atoms.proofs.Initial.{is_resolved, no_value, not_true}

module _ (p : Pair) (readable : IsReadable p.domain p.problem) (formed : WellFormed p) (params : List Typed) (os : List ℕ) (same : length os ≡ length params)
    (known : Each (λ o. o < length (objects_of p)) os) where
  -- ---- codes

  pub fact_code_of : (a : Atom) → slots_code os (fact_slots p params a).symbol.number (fact_slots p params a).slots ≡ fact_code p (atom_of params (names p os) a)
  unfolding slots_code
  fact_code_of a = ap (code_of (unwrap_or (place_in a.head.text (heads_of p.domain.predicates)) 0)) (sym (numbers_for p readable formed params os same known a.args))

  pub fluent_code_of : (a : Atom) → slots_code os (fluent_slots p params a).symbol.number (fluent_slots p params a).slots ≡ fluent_code p (atom_of params (names p os) a)
  unfolding slots_code
  fluent_code_of a = ap (code_of (unwrap_or (place_in a.head.text (heads_of p.domain.functions)) 0)) (sym (numbers_for p readable formed params os same known a.args))

  -- ---- what is given at first

  -- names that stand for something, by the slots and by the names
  resolved_by : (sigs : List Sig) (a : Atom)
      → ((is_some (place_in a.head.text (heads_of sigs)) && list_all is_object (map (slot_of p params) a.args)) && nat_le (length (map (slot_of p params) a.args)) 8)
      ≡ is_resolved p sigs (atom_of params (names p os) a)
  resolved_by sigs a =
      ap₂ (λ (b : Bool) (n : ℕ). (is_some (place_in a.head.text (heads_of sigs)) && b) && nat_le n 8) (sym (all_found p readable formed params os same known a.args))
      (length-map a.args (slot_of p params) ∙ sym (length-map a.args (argument_text params (names p os))))

  -- an atom by the number of its name and the numbers of its objects
  atom_by : (sigs : List Sig) (a : Atom) → is_resolved p sigs (atom_of params (names p os) a) ≡ true → (place : Option ℕ) → place_in a.head.text (heads_of sigs) ≡ place
      → head_text sigs (unwrap_or place 0) ∷ names p (map (slot_number os) (map (slot_of p params) a.args)) ≡ atom_of params (names p os) a
  atom_by sigs a h place e =
      let parts = and_parts (is_some (place_in a.head.text (heads_of sigs)) && list_all is_object (map (slot_of p params) a.args)) (nat_le (length (map (slot_of p params) a.args)) 8) (resolved_by sigs a ∙ h) in
      let inner = and_parts (is_some (place_in a.head.text (heads_of sigs))) (list_all is_object (map (slot_of p params) a.args)) parts.0 in
      ap₂ (λ (t : List ℕ) (ts : List (List ℕ)). t ∷ ts) (named place e inner.0) (texts_for p readable formed params os same known a.args inner.1)
    where
      named : (place : Option ℕ) → place_in a.head.text (heads_of sigs) ≡ place → is_some (place_in a.head.text (heads_of sigs)) ≡ true → head_text sigs (unwrap_or place 0) ≡ a.head.text
      named None e i = let bad = sym (ap is_some e) ∙ i in cc
      named (Some n) e i = named_there a.head.text (heads_of sigs) n e

  pub fact_truth : (a : Atom) → slots_truth p os (fact_slots p params a) ≡ is_true_at_first p (atom_of params (names p os) a)
  unfolding slots_truth
  fact_truth a = cases (may_be_given (fact_slots p params a)) (resolved_by p.domain.predicates a)
    where
      cases : (given : Bool) → given ≡ is_resolved p p.domain.predicates (atom_of params (names p os) a)
          → (if given then is_true_at_first p (fact_atom p (unwrap_or (place_in a.head.text (heads_of p.domain.predicates)) 0) (map (slot_number os) (map (slot_of p params) a.args))) else false)
          ≡ is_true_at_first p (atom_of params (names p os) a)
      cases true e = ap (is_true_at_first p) (atom_by p.domain.predicates a (sym e) (place_in a.head.text (heads_of p.domain.predicates)) refl)
      cases false e = sym (not_true p readable formed (atom_of params (names p os) a) (sym e))

  pub fluent_value : (a : Atom) → slots_value p os (fluent_slots p params a) ≡ value_at_first p (atom_of params (names p os) a)
  unfolding slots_value
  fluent_value a = cases (may_be_given (fluent_slots p params a)) (resolved_by p.domain.functions a)
    where
      cases : (given : Bool) → given ≡ is_resolved p p.domain.functions (atom_of params (names p os) a)
          → (if given then value_at_first p (fluent_atom p (unwrap_or (place_in a.head.text (heads_of p.domain.functions)) 0) (map (slot_number os) (map (slot_of p params) a.args))) else None)
          ≡ value_at_first p (atom_of params (names p os) a)
      cases true e = ap (value_at_first p) (atom_by p.domain.functions a (sym e) (place_in a.head.text (heads_of p.domain.functions)) refl)
      cases false e = sym (no_value p readable formed (atom_of params (names p os) a) (sym e))
