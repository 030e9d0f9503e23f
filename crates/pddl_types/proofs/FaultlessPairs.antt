-- A pair has no fault exactly where it is well formed.
use Rattle.std.proofs.Common.{◌≡◌, ◌⊎◌, inl, inr, ℕ, Bool, true, false, List, [], ◌∷◌, ◌++◌, Some, map, is_some, refl, sym, ap, subst, ◌∙◌, if◌then◌else◌}
use Rattle.std.specs.Prelude.{◌↔◌, bytes_eq, flat_map, not}
use Rattle.pddl_terms.specs.declared.names.Name.{Name}
use Rattle.pddl_terms.specs.declared.names.Sig.{Sig}
use Rattle.pddl_terms.specs.declared.names.Typed.{Typed}
use Rattle.pddl_terms.specs.declared.expressions.Expr.{Expr}
use Rattle.pddl_terms.specs.declared.actions.Effect.{Effect}
use Rattle.pddl_terms.specs.declared.actions.Effect.TheVariants as effect
use Rattle.pddl_terms.specs.declared.files.Domain.{Domain}
use Rattle.pddl_types.specs.declared.faults.Side.{Side}
use Rattle.pddl_types.specs.declared.faults.Side.TheVariants as side
use Rattle.pddl_types.specs.declared.faults.CheckKind.TheVariants.{CyclicType, UnknownType}
use Rattle.pddl_types.specs.declared.pairs.Pair.{Pair}
use Rattle.pddl_types.specs.declared.pairs.Sort.TheVariants.{Function}
use Rattle.name_table.specs.TypedLists.{first_typed, names_of}
use Rattle.type_order.specs.Types.{Descends, child, above, descends, is_declared, top_type}
use Rattle.pddl_types.specs.Faults.{check_fault}
use Rattle.pddl_types.specs.Pairs.{heads_of}
use Rattle.pddl_types.specs.Meanings.{functions_first}
use Rattle.pddl_types.specs.DeclarationFaults.{unless, cyclic_types, parameter_faults, repeated, repeated_heads, repeated_in_both, signature_faults, types_faults, typed_faults, unknown_types, with_names}
use Rattle.pddl_types.specs.UseFaults.{atom_faults, effect_faults, expression_faults}
use Rattle.pddl_types.specs.Contents.{all_dividing, all_read, fact_changed, fluent_changed, right_sides, expression_reads}
use Rattle.pddl_types.specs.WellFormed.{AreDistinct, Each, IsDeclaredType, Stands, texts_of}
use Rattle.type_order.proofs.Climbs.{descends_from, descends_to, parent_among}
use Rattle.type_order.proofs.Pigeons.{In}
use Rattle.pddl_types.proofs.Distinct.{bytes_decide, distinct_swap, fresh_distinct, repeated_behind, repeated_distinct, repeated_fresh, texts_append}
use Rattle.pddl_types.proofs.Empties.{chain, back, both, empty_append, empty_flat, empty_three, empty_unless, each_both, each_flat, each_map, each_same}
use Rattle.pddl_types.proofs.FaultlessAtoms.{either_true}
use Rattle.pddl_types.proofs.FaultlessParts.{IsFact, IsNumber, IsUnchanged, ReadsWell, expression_means}

-- ---- types

some_typed : (k : List ℕ) (types : List Typed) → (is_some (first_typed k types) ≡ true) ↔ Stands k (texts_of (names_of types))
some_typed k [] = (λ e. cc, λ h. absurd h)
some_typed k (t ∷ types) = cases (bytes_eq k t.name.text) (bytes_decide k t.name.text) (some_typed k types)
  where
    cases : (test : Bool) → (test ≡ true) ↔ (k ≡ t.name.text) → (is_some (first_typed k types) ≡ true) ↔ Stands k (texts_of (names_of types))
        → (is_some (if test then Some t else first_typed k types) ≡ true) ↔ ((k ≡ t.name.text) ⊎ Stands k (texts_of (names_of types)))
    cases true d rest = (λ e. inl (d.0 refl), λ h. refl)
    cases false d rest = (λ e. inr (rest.0 e), λ h. elim h [ inl e ↦ (let bad = d.1 e in cc) | inr i ↦ rest.1 i ])

declared_means : (p : Pair) (k : List ℕ) → (is_declared p.domain.types k ≡ true) ↔ IsDeclaredType p k
declared_means p k = either_true (bytes_eq k top_type) (is_some (first_typed k p.domain.types)) (bytes_decide k top_type) (some_typed k p.domain.types)

abbrev pub AreDeclared : Pair → List Typed → Type 0
AreDeclared p items = Each (λ t. IsDeclaredType p t.kind.text) items

unknown_means : (p : Pair) (side : Side) (items : List Typed) → (unknown_types p.domain.types side items ≡ []) ↔ AreDeclared p items
unknown_means p side items =
    chain (empty_flat (λ t. unless (is_declared p.domain.types t.kind.text) (check_fault side UnknownType t.kind)) items)
    (each_same (λ t. unless (is_declared p.domain.types t.kind.text) (check_fault side UnknownType t.kind) ≡ []) (λ t. IsDeclaredType p t.kind.text)
    (λ t. chain (empty_unless (is_declared p.domain.types t.kind.text) (check_fault side UnknownType t.kind)) (declared_means p t.kind.text)) items)

descends_among : (types : List Typed) (k q : List ℕ) → Descends types k q → In k (map (λ t. t.name.text) types)
descends_among types k q (child _ _ e) = parent_among types k q e
descends_among types k q (above _ p _ e d) = parent_among types k p e

each_at : (P : List ℕ → Type 0) (k : List ℕ) (types : List Typed) → Each (λ t. P t.name.text) types → In k (map (λ t. t.name.text) types) → P k
each_at P k [] h i = absurd i
each_at P k (t ∷ types) h (inl e) = subst P (sym e) h.0
each_at P k (t ∷ types) h (inr i) = each_at P k types h.1 i

cyclic_means : (types : List Typed) → (cyclic_types types types ≡ []) ↔ ((k : List ℕ) → Descends types k k → ⊥)
cyclic_means types =
    chain (empty_flat (λ t. unless (not (descends types t.name.text t.name.text)) (check_fault side.Domain CyclicType t.name)) types)
    (λ h k d. each_at (λ j. Descends types j j → ⊥) k types (apart types h) (descends_among types k k d) d, λ h. none types h)
  where
    not_here : (t : Typed) → unless (not (descends types t.name.text t.name.text)) (check_fault side.Domain CyclicType t.name) ≡ [] → Descends types t.name.text t.name.text → ⊥
    not_here t e d =
        let yes = descends_to types t.name.text t.name.text d in
        let bad = ap not (sym yes) ∙ (empty_unless (not (descends types t.name.text t.name.text)) (check_fault side.Domain CyclicType t.name)).0 e in
        cc

    apart : (ts : List Typed) → Each (λ t. unless (not (descends types t.name.text t.name.text)) (check_fault side.Domain CyclicType t.name) ≡ []) ts
        → Each (λ t. Descends types t.name.text t.name.text → ⊥) ts
    apart [] h = tt
    apart (t ∷ ts) h = (not_here t h.0, apart ts h.1)

    here : (t : Typed) → ((k : List ℕ) → Descends types k k → ⊥) → (b : Bool) → descends types t.name.text t.name.text ≡ b → unless (not b) (check_fault side.Domain CyclicType t.name) ≡ []
    here t h true e = absurd (h t.name.text (descends_from types t.name.text t.name.text e))
    here t h false e = refl

    none : (ts : List Typed) → ((k : List ℕ) → Descends types k k → ⊥) → Each (λ t. unless (not (descends types t.name.text t.name.text)) (check_fault side.Domain CyclicType t.name) ≡ []) ts
    none [] h = tt
    none (t ∷ ts) h = (here t h (descends types t.name.text t.name.text) refl, none ts h)

pub types_mean : (p : Pair) → (types_faults p.domain.types ≡ [])
    ↔ (AreDistinct (top_type ∷ texts_of (names_of p.domain.types)) × AreDeclared p p.domain.types × ((k : List ℕ) → Descends p.domain.types k k → ⊥))
types_mean p =
    let apart = fresh_distinct bytes_eq bytes_decide (top_type ∷ texts_of (names_of p.domain.types)) in
    let names = repeated_fresh side.Domain (top_type ∷ []) (names_of p.domain.types) in
    let declared = unknown_means p side.Domain p.domain.types in
    let cycles = cyclic_means p.domain.types in
    chain (empty_three (repeated side.Domain (top_type ∷ []) (names_of p.domain.types)) (unknown_types p.domain.types side.Domain p.domain.types) (cyclic_types p.domain.types p.domain.types))
    (λ h. (apart.0 (refl, names.0 h.0), declared.0 h.1, cycles.0 h.2), λ h. (names.1 (apart.1 h.0).1, declared.1 h.1, cycles.1 h.2))

-- ---- constants, objects, predicates and functions

pub objects_mean : (p : Pair) → ((typed_faults p.domain.types side.Domain [] p.domain.constants ≡ [])
    × (typed_faults p.domain.types side.Problem (with_names [] (names_of p.domain.constants)) p.problem.objects ≡ []))
    ↔ (AreDeclared p p.domain.constants × AreDeclared p p.problem.objects × AreDistinct (texts_of (names_of p.domain.constants ++ names_of p.problem.objects)))
objects_mean p =
    let names = repeated_behind side.Domain side.Problem (names_of p.domain.constants) (names_of p.problem.objects) in
    let constants = unknown_means p side.Domain p.domain.constants in
    let objects = unknown_means p side.Problem p.problem.objects in
    chain (both (empty_append (unknown_types p.domain.types side.Domain p.domain.constants) (repeated side.Domain [] (names_of p.domain.constants)))
    (empty_append (unknown_types p.domain.types side.Problem p.problem.objects) (repeated side.Problem (with_names [] (names_of p.domain.constants)) (names_of p.problem.objects))))
    (λ h. (constants.0 h.0.0, objects.0 h.1.0, names.0 (h.0.1, h.1.1)), λ h. ((constants.1 h.0, (names.1 h.2).0), (objects.1 h.1, (names.1 h.2).1)))

sections_mean : (first second : List Sig) → (repeated_in_both first second ≡ []) ↔ AreDistinct (texts_of (heads_of first ++ heads_of second))
sections_mean first second =
    chain (empty_append (repeated side.Domain [] (heads_of first)) (repeated side.Domain (with_names [] (heads_of first)) (heads_of second)))
    (repeated_behind side.Domain side.Domain (heads_of first) (heads_of second))

swapped : (ns ms : List Name) → AreDistinct (texts_of (ns ++ ms)) ↔ AreDistinct (texts_of (ms ++ ns))
swapped ns ms =
    let swap = distinct_swap (texts_of ns) (texts_of ms) in (
      λ h. subst AreDistinct (sym (texts_append ms ns)) (swap.0 (subst AreDistinct (texts_append ns ms) h)),
      λ h. subst AreDistinct (sym (texts_append ns ms)) (swap.1 (subst AreDistinct (texts_append ms ns) h)),
    )

pub heads_mean : (d : Domain) → (repeated_heads d ≡ []) ↔ AreDistinct (texts_of (heads_of d.predicates ++ heads_of d.functions))
heads_mean d = cases (functions_first d.predicates d.functions)
  where
    cases : (test : Bool) → ((if test then repeated_in_both d.functions d.predicates else repeated_in_both d.predicates d.functions) ≡ [])
        ↔ AreDistinct (texts_of (heads_of d.predicates ++ heads_of d.functions))
    cases true = chain (sections_mean d.functions d.predicates) (swapped (heads_of d.functions) (heads_of d.predicates))
    cases false = sections_mean d.predicates d.functions

-- ---- parameters

abbrev pub HasParameters : Pair → List Typed → Type 0
HasParameters p params = AreDeclared p params × AreDistinct (texts_of (names_of params))

pub parameters_mean : (p : Pair) (params : List Typed) → (parameter_faults p.domain.types params ≡ []) ↔ HasParameters p params
parameters_mean p params =
    chain (empty_append (unknown_types p.domain.types side.Domain params) (repeated side.Domain [] (names_of params)))
    (both (unknown_means p side.Domain params) (repeated_distinct side.Domain (names_of params)))

pub signatures_mean : (p : Pair) (sigs : List Sig) → (signature_faults p.domain.types sigs ≡ []) ↔ Each (HasParameters p) (map (λ s. s.params) sigs)
signatures_mean p sigs =
    chain (empty_flat (λ s. parameter_faults p.domain.types s.params) sigs)
    (chain (each_same (λ s. parameter_faults p.domain.types s.params ≡ []) (λ s. HasParameters p s.params) (λ s. parameters_mean p s.params) sigs)
    (back (each_map (HasParameters p) (λ s. s.params) sigs)))

-- ---- numbers and conditions as uses

module _ (p : Pair) (side : Side) (params : List Typed) where
  pub numbers_mean : (es : List Expr) → Each (IsNumber p side params) es ↔ (Each (ReadsWell p side params) (all_read es) × Each (IsUnchanged p side params) (all_dividing es))
  numbers_mean es =
      chain (each_same (IsNumber p side params) (λ e. Each (ReadsWell p side params) (expression_reads e).all × Each (IsUnchanged p side params) (expression_reads e).in_divisors) (expression_means p side params) es)
      (chain (each_both (λ e. Each (ReadsWell p side params) (expression_reads e).all) (λ e. Each (IsUnchanged p side params) (expression_reads e).in_divisors) es)
      (both (back (each_flat (ReadsWell p side params) (λ e. (expression_reads e).all) es)) (back (each_flat (IsUnchanged p side params) (λ e. (expression_reads e).in_divisors) es))))

  pub effects_mean : (es : List Effect) → (flat_map (effect_faults p side params) es ≡ [])
      ↔ (Each (IsFact p side params) (flat_map fact_changed es) × Each (ReadsWell p side params) (flat_map fluent_changed es) × Each (IsNumber p side params) (flat_map right_sides es))
  effects_mean [] = (λ h. (tt, tt, tt), λ h. refl)
  effects_mean (e ∷ es) = chain (empty_append (effect_faults p side params e) (flat_map (effect_faults p side params) es)) (cases e (effects_mean es))
    where
      cases : (x : Effect) → (flat_map (effect_faults p side params) es ≡ [])
          ↔ (Each (IsFact p side params) (flat_map fact_changed es) × Each (ReadsWell p side params) (flat_map fluent_changed es) × Each (IsNumber p side params) (flat_map right_sides es))
          → ((effect_faults p side params x ≡ []) × (flat_map (effect_faults p side params) es ≡ []))
          ↔ (Each (IsFact p side params) (flat_map fact_changed (x ∷ es)) × Each (ReadsWell p side params) (flat_map fluent_changed (x ∷ es)) × Each (IsNumber p side params) (flat_map right_sides (x ∷ es)))
      cases (effect.Add a) rest = (λ h. (let r = rest.0 h.1 in ((h.0, r.0), r.1, r.2)), λ h. (h.0.0, rest.1 (h.0.1, h.1, h.2)))
      cases (effect.Del a) rest = (λ h. (let r = rest.0 h.1 in ((h.0, r.0), r.1, r.2)), λ h. (h.0.0, rest.1 (h.0.1, h.1, h.2)))
      cases (effect.Num how a x) rest =
          let parts = empty_append (atom_faults p side params Function a) (expression_faults p side params x false) in
          (λ h. (let r = rest.0 h.1 in (r.0, ((parts.0 h.0).0, r.1), ((parts.0 h.0).1, r.2))), λ h. (parts.1 (h.1.0, h.2.0), rest.1 (h.0, h.1.1, h.2.1)))
