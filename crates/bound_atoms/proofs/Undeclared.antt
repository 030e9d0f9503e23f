-- A name that isn't declared is changed by no effect.
use Rattle.std.proofs.Common.{◌≡◌, ◌||◌, ℕ, Bool, true, false, List, [], ◌∷◌, None, map, refl, sym, ap, ◌∙◌, is_some}
use Rattle.std.specs.Prelude.{bytes_eq, flat_map, not}
use Rattle.std.proofs.lemmas.Slice.Eq.{bytes_eq-Decides}
use Rattle.pddl_terms.specs.declared.names.Atom.{Atom}
use Rattle.pddl_terms.specs.declared.names.Name.{Name}
use Rattle.pddl_terms.specs.declared.names.Sig.{Sig}
use Rattle.pddl_terms.specs.declared.actions.Effect.{Effect}
use Rattle.pddl_terms.specs.declared.actions.Effect.TheVariants as effect
use Rattle.pddl_terms.specs.declared.actions.Schema.{Schema}
use Rattle.name_table.specs.Tables.{is_text_among, place_in}
use Rattle.pddl_types.specs.declared.faults.Side.TheVariants as side
use Rattle.pddl_types.specs.declared.pairs.Pair.{Pair}
use Rattle.pddl_types.specs.Contents.{Use, all_read, all_used, fact_changed, fluent_changed, right_sides, schema_uses, uses_in}
use Rattle.pddl_types.specs.Pairs.{changed_function, heads_of}
use Rattle.pddl_types.specs.WellFormed.{Declares, Each, WellFormed, signatures_of}
use Rattle.pddl_types.proofs.Empties.{each_flat, each_four_append, each_from}
use Rattle.static_facts.specs.Fixed.{changed_predicate, is_fixed_function, is_fixed_predicate}
use Rattle.bound_atoms.proofs.Placing.{stands_placed}

-- a text that has no place is none of the names that have one
none_among : (heads : List Name) (text : List ℕ) → place_in text heads ≡ None → (ns : List Name) → Each (λ n. is_some (place_in n.text heads) ≡ true) ns
    → is_text_among text (map (λ n. n.text) ns) ≡ false
none_among heads text e [] h = refl
none_among heads text e (n ∷ ns) h = cases (bytes_eq text n.text) refl (none_among heads text e ns h.1)
  where
    cases : (test : Bool) → bytes_eq text n.text ≡ test → is_text_among text (map (λ n. n.text) ns) ≡ false → (test || is_text_among text (map (λ n. n.text) ns)) ≡ false
    cases false t rest = rest
    cases true t rest =
        let is = (bytes_eq-Decides text n.text).0 t in
        let bad = sym (ap is_some e) ∙ ap (λ (u : List ℕ). is_some (place_in u heads)) is ∙ h.0 in cc

module _ (p : Pair) (formed : WellFormed p) where
  abbrev IsKnown : Use → Type 0
  IsKnown u = (s : Sig) × Declares p.domain u.sort u.atom.head.text s

  abbrev HasPlace : List Sig → Name → Type 0
  HasPlace sigs n = is_some (place_in n.text (heads_of sigs)) ≡ true

  have_places : (sort : _) (at : _) (params : _) (atoms : List Atom) → Each IsKnown (all_used at params sort atoms) → Each (λ a. HasPlace (signatures_of p.domain sort) a.head) atoms
  have_places sort at params [] h = tt
  have_places sort at params (a ∷ atoms) h =
      (stands_placed (λ (s : Sig). s.name) a.head.text h.0.0 (signatures_of p.domain sort) h.0.1.stands h.0.1.named, have_places sort at params atoms h.1)

  schemas_known : Each (λ s. Each IsKnown (schema_uses s)) p.domain.schemas
  schemas_known =
      (each_flat IsKnown schema_uses p.domain.schemas).0
      ((each_four_append IsKnown (flat_map schema_uses p.domain.schemas) _ _ (uses_in side.Problem [] p.problem.goal)).0 formed.heads_known).0

  predicate_of : (P : Name → Type 0) (e : Effect) → Each (λ (a : Atom). P a.head) (fact_changed e) → Each P (changed_predicate e)
  predicate_of P (effect.Add a) h = h
  predicate_of P (effect.Del a) h = h
  predicate_of P (effect.Num how a x) h = h

  function_of : (P : Name → Type 0) (e : Effect) → Each (λ (a : Atom). P a.head) (fluent_changed e) → Each P (changed_function e)
  function_of P (effect.Add a) h = h
  function_of P (effect.Del a) h = h
  function_of P (effect.Num how a x) h = h

  names_of_effects : (P : Name → Type 0) (atoms : Effect → List Atom) (names : Effect → List Name) → ((e : Effect) → Each (λ (a : Atom). P a.head) (atoms e) → Each P (names e)) → (es : List Effect)
      → Each (λ (a : Atom). P a.head) (flat_map atoms es) → Each P (flat_map names es)
  names_of_effects P atoms names f es h =
      (each_flat P names es).1 (each_from (λ e. Each (λ (a : Atom). P a.head) (atoms e)) (λ e. Each P (names e)) f es ((each_flat (λ (a : Atom). P a.head) atoms es).0 h))

  schema_predicates : (s : Schema) → Each IsKnown (schema_uses s) → Each (HasPlace p.domain.predicates) (flat_map changed_predicate s.effects)
  schema_predicates s h =
      let parts = (each_four_append IsKnown (uses_in side.Domain s.params s.pre) (all_used side.Domain s.params _ (flat_map fact_changed s.effects)) (all_used side.Domain s.params _ (flat_map fluent_changed s.effects))
      (all_used side.Domain s.params _ (all_read (flat_map right_sides s.effects)))).0 h in
      names_of_effects (HasPlace p.domain.predicates) fact_changed changed_predicate (predicate_of (HasPlace p.domain.predicates)) s.effects
      (have_places _ side.Domain s.params (flat_map fact_changed s.effects) parts.1)

  schema_functions : (s : Schema) → Each IsKnown (schema_uses s) → Each (HasPlace p.domain.functions) (flat_map changed_function s.effects)
  schema_functions s h =
      let parts = (each_four_append IsKnown (uses_in side.Domain s.params s.pre) (all_used side.Domain s.params _ (flat_map fact_changed s.effects)) (all_used side.Domain s.params _ (flat_map fluent_changed s.effects))
      (all_used side.Domain s.params _ (all_read (flat_map right_sides s.effects)))).0 h in
      names_of_effects (HasPlace p.domain.functions) fluent_changed changed_function (function_of (HasPlace p.domain.functions)) s.effects
      (have_places _ side.Domain s.params (flat_map fluent_changed s.effects) parts.2)

  pub fixed_predicate : (head : List ℕ) → place_in head (heads_of p.domain.predicates) ≡ None → is_fixed_predicate p head ≡ true
  unfolding is_fixed_predicate
  fixed_predicate head e =
      ap not
      (none_among (heads_of p.domain.predicates) head e (flat_map (λ (s : Schema). flat_map changed_predicate s.effects) p.domain.schemas)
      ((each_flat (HasPlace p.domain.predicates) (λ (s : Schema). flat_map changed_predicate s.effects) p.domain.schemas).1
      (each_from (λ s. Each IsKnown (schema_uses s)) (λ s. Each (HasPlace p.domain.predicates) (flat_map changed_predicate s.effects)) schema_predicates p.domain.schemas schemas_known)))

  pub fixed_function : (head : List ℕ) → place_in head (heads_of p.domain.functions) ≡ None → is_fixed_function p head ≡ true
  unfolding is_fixed_function
  fixed_function head e =
      ap not
      (none_among (heads_of p.domain.functions) head e (flat_map (λ (s : Schema). flat_map changed_function s.effects) p.domain.schemas)
      ((each_flat (HasPlace p.domain.functions) (λ (s : Schema). flat_map changed_function s.effects) p.domain.schemas).1
      (each_from (λ s. Each IsKnown (schema_uses s)) (λ s. Each (HasPlace p.domain.functions) (flat_map changed_function s.effects)) schema_functions p.domain.schemas schemas_known)))
