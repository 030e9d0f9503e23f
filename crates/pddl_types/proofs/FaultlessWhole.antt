-- A pair has no fault exactly where it is well formed: actions, the initial state and the whole.
use Rattle.std.proofs.Common.{◌≡◌, ◌&&◌, ℕ, Some, length, Bool, true, false, List, [], ◌∷◌, ◌++◌, None, map, refl, sym, ap, ap₂, subst, ◌∙◌, if◌then◌else◌}
use Rattle.std.specs.Prelude.{◌↔◌, bytes_eq, flat_map, not}
use Rattle.std.specs.Cmp.Lexicographic.{pointwise}
use Rattle.num_ends.specs.Decimal.{Decimal}
use Rattle.pddl_terms.specs.declared.names.Arg.{Arg}
use Rattle.pddl_terms.specs.declared.names.Atom.{Atom}
use Rattle.pddl_terms.specs.declared.names.Sig.{Sig}
use Rattle.pddl_terms.specs.declared.names.Typed.{Typed}
use Rattle.pddl_terms.specs.declared.conditions.Cond.{Cond}
use Rattle.pddl_terms.specs.declared.actions.Schema.{Schema}
use Rattle.pddl_types.specs.declared.faults.Side.{Side}
use Rattle.pddl_types.specs.declared.faults.Side.TheVariants as side
use Rattle.pddl_types.specs.declared.faults.CheckKind.TheVariants.{Duplicate}
use Rattle.pddl_types.specs.declared.pairs.Pair.{Pair}
use Rattle.pddl_types.specs.declared.pairs.Sort.{Sort}
use Rattle.pddl_types.specs.declared.pairs.Sort.TheVariants.{Predicate, Function}
use Rattle.name_table.specs.TypedLists.{names_of}
use Rattle.type_order.specs.Types.{Descends, top_type}
use Rattle.pddl_types.specs.Faults.{check_fault}
use Rattle.pddl_types.specs.Pairs.{changed_functions, fluent_of, heads_of, schema_names}
use Rattle.pddl_types.specs.Meanings.{named_by, sig_of}
use Rattle.pddl_types.specs.DeclarationFaults.{constant_faults, declaration_faults, object_faults, parameter_faults, repeated, repeated_heads, signature_faults, types_faults}
use Rattle.pddl_types.specs.UseFaults.{atom_faults, condition_faults, effect_faults, facts_faults, fluents_faults, has_value, repeated_values, with_fluent}
use Rattle.pddl_types.specs.Checks.{schemas_faults, initial_faults, faults_of, problem_faults, schema_faults}
use Rattle.pddl_types.specs.Contents.{Mention, Use, all_dividing, all_read, all_used, divisors_of, fact_changed, fluent_changed, mentions_in, mentions_of, right_sides, parameter_lists, condition_parts, schema_uses, typed_lists, uses_in, uses_of}
use Rattle.pddl_types.specs.WellFormed.{AreDistinct, AreFitting, Declares, Means, Each, Stands, WellFormed, texts_of}
use Rattle.pddl_types.proofs.Distinct.{Fresh, bytes_decide, fresh_distinct, none_stands, repeated_distinct}
use Rattle.pddl_types.proofs.Empties.{same, chain, back, both, empty_append, empty_five, empty_flat, empty_three, empty_unless, each_append, each_both, each_flat, each_four, each_four_append, each_from, each_map, each_of_all, each_same, each_three_append, each_under}
use Rattle.pddl_types.proofs.Meant.{argument_is_meant, declared_is_meant}
use Rattle.pddl_types.proofs.FaultlessAtoms.{AllFit, HasArity, IsKnown, IsNamed, IsTyped, argument_means, atom_means}
use Rattle.pddl_types.proofs.FaultlessParts.{IsMentioned, IsUnchanged, condition_means}
use Rattle.pddl_types.proofs.FaultlessPairs.{AreDeclared, HasParameters, effects_mean, heads_mean, numbers_mean, objects_mean, parameters_mean, signatures_mean, types_mean}

-- ---- values

lists_decide : (f g : List (List ℕ)) → (pointwise bytes_eq f g ≡ true) ↔ (f ≡ g)
lists_decide [] [] = (λ e. refl, λ e. refl)
lists_decide [] (y ∷ g) = (λ e. cc, λ e. cc)
lists_decide (x ∷ f) [] = (λ e. cc, λ e. cc)
lists_decide (x ∷ f) (y ∷ g) = cases (bytes_eq x y) (bytes_decide x y) (lists_decide f g)
  where
    cases : (test : Bool) → (test ≡ true) ↔ (x ≡ y) → (pointwise bytes_eq f g ≡ true) ↔ (f ≡ g) → ((test && pointwise bytes_eq f g) ≡ true) ↔ (x ∷ f ≡ y ∷ g)
    cases true d rest = (λ e. ap₂ (λ (a : List ℕ) (b : List (List ℕ)). a ∷ b) (d.0 refl) (rest.0 e), λ e. rest.1 (let tail : f ≡ g = cc in tail))
    cases false d rest = (λ e. cc, λ e. (let head : x ≡ y = cc in let bad = d.1 head in cc))

abbrev fluents_of : List (Atom × Decimal) → List (List (List ℕ))
fluents_of vs = map (λ v. fluent_of v.0) vs

values_fresh : (seen : List (List (List ℕ))) (vs : List (Atom × Decimal)) → (repeated_values seen vs ≡ []) ↔ Fresh (pointwise bytes_eq) lists_decide seen (fluents_of vs)
values_fresh seen [] = (λ e. tt, λ h. refl)
values_fresh seen (v ∷ vs) =
    chain (empty_append _ _) (chain (both (empty_unless (not (has_value (fluent_of v.0) seen)) (check_fault side.Problem Duplicate v.0.head)) same) (cases (has_value (fluent_of v.0) seen) refl (λ s. values_fresh s vs)))
  where
    cases : (test : Bool) → has_value (fluent_of v.0) seen ≡ test → ((s : List (List (List ℕ))) → (repeated_values s vs ≡ []) ↔ Fresh (pointwise bytes_eq) lists_decide s (fluents_of vs))
        → ((not (has_value (fluent_of v.0) seen) ≡ true) × (repeated_values (with_fluent seen (fluent_of v.0)) vs ≡ []))
        ↔ ((has_value (fluent_of v.0) seen ≡ false) × Fresh (pointwise bytes_eq) lists_decide (seen ++ fluent_of v.0 ∷ []) (fluents_of vs))
    cases true e rest = (λ h. (let bad = ap not (sym e) ∙ h.0 in cc), λ h. (let bad = sym e ∙ h.0 in cc))
    cases false e rest =
        let more : with_fluent seen (fluent_of v.0) ≡ seen ++ fluent_of v.0 ∷ [] = ap (λ (b : Bool). if b then seen else seen ++ fluent_of v.0 ∷ []) e in (
          λ h. (e, (rest (seen ++ fluent_of v.0 ∷ [])).0 (subst (λ s. repeated_values s vs ≡ []) more h.1)),
          λ h. (ap not e, subst (λ s. repeated_values s vs ≡ []) (sym more) ((rest (seen ++ fluent_of v.0 ∷ [])).1 h.1)),
        )

values_mean : (vs : List (Atom × Decimal)) → (repeated_values [] vs ≡ []) ↔ AreDistinct (fluents_of vs)
values_mean vs = chain (values_fresh [] vs) (fresh_distinct (pointwise bytes_eq) lists_decide (fluents_of vs))

-- ---- uses

module _ (p : Pair) where
  abbrev GoodUse : Use → Type 0
  GoodUse u = atom_faults p u.side u.params u.sort u.atom ≡ []

  abbrev Unchanged : Atom → Type 0
  Unchanged a = IsUnchanged p side.Domain [] a

  used : (side : Side) (params : List Typed) (sort : Sort) (atoms : List Atom) → Each GoodUse (all_used side params sort atoms) ↔ Each (λ a. atom_faults p side params sort a ≡ []) atoms
  used side params sort atoms = each_map GoodUse (λ a. record { side = side; params = params; sort = sort; atom = a }) atoms

  abbrev SchemaParts : Schema → Type 0
  SchemaParts s =
      HasParameters p s.params
      × Each GoodUse (schema_uses s)
      × Each Unchanged (all_dividing (condition_parts s.pre).numbers ++ all_dividing (flat_map right_sides s.effects))
      × Each (IsMentioned p side.Domain s.params) (condition_parts s.pre).objects

  schema_means : (s : Schema) → (schema_faults p s ≡ []) ↔ SchemaParts s
  unfolding schema_faults
  schema_means s =
      let params = parameters_mean p s.params in
      let pre = condition_means p side.Domain s.params s.pre in
      let effects = effects_mean p side.Domain s.params s.effects in
      let numbers = numbers_mean p side.Domain s.params (condition_parts s.pre).numbers in
      let changes = numbers_mean p side.Domain s.params (flat_map right_sides s.effects) in
      let divisors = each_append Unchanged (all_dividing (condition_parts s.pre).numbers) (all_dividing (flat_map right_sides s.effects)) in
      let uses = each_four_append GoodUse (uses_in side.Domain s.params s.pre) (all_used side.Domain s.params Predicate (flat_map fact_changed s.effects))
      (all_used side.Domain s.params Function (flat_map fluent_changed s.effects)) (all_used side.Domain s.params Function (all_read (flat_map right_sides s.effects))) in
      let inside = each_append GoodUse (all_used side.Domain s.params Predicate (condition_parts s.pre).facts) (all_used side.Domain s.params Function (all_read (condition_parts s.pre).numbers)) in
      let pre_facts = used side.Domain s.params Predicate (condition_parts s.pre).facts in
      let pre_reads = used side.Domain s.params Function (all_read (condition_parts s.pre).numbers) in
      let facts = used side.Domain s.params Predicate (flat_map fact_changed s.effects) in
      let fluents = used side.Domain s.params Function (flat_map fluent_changed s.effects) in
      let reads = used side.Domain s.params Function (all_read (flat_map right_sides s.effects)) in
      let whole = empty_three (parameter_faults p.domain.types s.params) (condition_faults p side.Domain s.params s.pre) (flat_map (effect_faults p side.Domain s.params) s.effects) in (
        λ h.
            let w = whole.0 h in
            let c = pre.0 w.1 in
            let e = effects.0 w.2 in
            let n = numbers.0 c.1 in
            let m = changes.0 e.2 in
            (params.0 w.0, uses.1 (inside.1 (pre_facts.1 c.0, pre_reads.1 n.0), facts.1 e.0, fluents.1 e.1, reads.1 m.0), divisors.1 (n.1, m.1), c.2),
        λ h.
            let u = uses.0 h.1 in
            let i = inside.0 u.0 in
            let d = divisors.0 h.2 in
            whole.1 (
              params.1 h.0,
              pre.1 (pre_facts.0 i.0, numbers.1 (pre_reads.0 i.1, d.0), h.3),
              effects.1 (facts.0 u.1, fluents.0 u.2, changes.1 (reads.0 u.3, d.1)),
            ),
      )

  abbrev schema_divisors : Schema → List Atom
  schema_divisors s = all_dividing (condition_parts s.pre).numbers ++ all_dividing (flat_map right_sides s.effects)

  schemas_mean : (ss : List Schema) → (flat_map (schema_faults p) ss ≡ [])
      ↔ (Each (HasParameters p) (map (λ s. s.params) ss) × Each GoodUse (flat_map schema_uses ss) × Each Unchanged (flat_map schema_divisors ss)
      × Each (λ s. Each (IsMentioned p side.Domain s.params) (condition_parts s.pre).objects) ss)
  schemas_mean ss =
      let each = each_same (λ s. schema_faults p s ≡ []) SchemaParts schema_means ss in
      let four = each_four (λ s. HasParameters p s.params) (λ s. Each GoodUse (schema_uses s)) (λ s. Each Unchanged (schema_divisors s)) (λ s. Each (IsMentioned p side.Domain s.params) (condition_parts s.pre).objects) ss in
      let params = each_map (HasParameters p) (λ s. s.params) ss in
      let uses = each_flat GoodUse schema_uses ss in
      let divisors = each_flat Unchanged schema_divisors ss in
      let flat = empty_flat (schema_faults p) ss in (
        λ h.
            let f = four.0 (each.0 (flat.0 h)) in
            (params.1 f.0, uses.1 f.1, divisors.1 f.2, f.3),
        λ h. flat.1 (each.1 (four.1 (params.0 h.0, uses.0 h.1, divisors.0 h.2, h.3))),
      )

  -- ---- the whole

  record Whole : Type 0 where
    types_once : AreDistinct (top_type ∷ texts_of (names_of p.domain.types))
    types_declared : AreDeclared p p.domain.types
    no_cycle : (k : List ℕ) → Descends p.domain.types k k → ⊥
    constants_declared : AreDeclared p p.domain.constants
    objects_declared : AreDeclared p p.problem.objects
    objects_once : AreDistinct (texts_of (names_of p.domain.constants ++ names_of p.problem.objects))
    heads_once : AreDistinct (texts_of (heads_of p.domain.predicates ++ heads_of p.domain.functions))
    predicates : Each (HasParameters p) (map (λ s. s.params) p.domain.predicates)
    functions : Each (HasParameters p) (map (λ s. s.params) p.domain.functions)
    schemas_once : AreDistinct (texts_of (schema_names p.domain.schemas))
    schemas : Each (HasParameters p) (map (λ s. s.params) p.domain.schemas)
    uses : Each GoodUse (uses_of p)
    divisors : Each Unchanged (divisors_of p)
    compared : Each (λ s. Each (IsMentioned p side.Domain s.params) (condition_parts s.pre).objects) p.domain.schemas
    compared_last : Each (IsMentioned p side.Problem []) (condition_parts p.problem.goal).objects
    values_once : AreDistinct (fluents_of p.problem.values)

  declarations_mean : (declaration_faults p.domain ≡ []) ↔ ((types_faults p.domain.types ≡ []) × (constant_faults p.domain ≡ []) × (repeated_heads p.domain ≡ [])
      × (signature_faults p.domain.types p.domain.predicates ≡ []) × (signature_faults p.domain.types p.domain.functions ≡ []))
  unfolding declaration_faults
  declarations_mean =
      empty_five (types_faults p.domain.types) (constant_faults p.domain) (repeated_heads p.domain) (signature_faults p.domain.types p.domain.predicates) (signature_faults p.domain.types p.domain.functions)

  actions_mean : (schemas_faults p ≡ []) ↔ ((repeated side.Domain [] (schema_names p.domain.schemas) ≡ []) × (flat_map (schema_faults p) p.domain.schemas ≡ []))
  unfolding schemas_faults
  actions_mean = empty_append (repeated side.Domain [] (schema_names p.domain.schemas)) (flat_map (schema_faults p) p.domain.schemas)

  facts_mean : (facts_faults p side.Problem [] p.problem.facts ≡ []) ↔ Each GoodUse (all_used side.Problem [] Predicate p.problem.facts)
  unfolding facts_faults
  facts_mean = chain (empty_flat (λ a. atom_faults p side.Problem [] Predicate a) p.problem.facts) (back (used side.Problem [] Predicate p.problem.facts))

  fluents_mean : (fluents_faults p side.Problem [] p.problem.values ≡ []) ↔ Each GoodUse (all_used side.Problem [] Function (map (λ v. v.0) p.problem.values))
  unfolding fluents_faults
  fluents_mean =
      chain (empty_flat (λ v. atom_faults p side.Problem [] Function v.0) p.problem.values)
      (chain (back (each_map (λ a. atom_faults p side.Problem [] Function a ≡ []) (λ v. v.0) p.problem.values)) (back (used side.Problem [] Function (map (λ v. v.0) p.problem.values))))

  entries_mean : (initial_faults p ≡ []) ↔ ((facts_faults p side.Problem [] p.problem.facts ≡ []) × (fluents_faults p side.Problem [] p.problem.values ≡ []) × (repeated_values [] p.problem.values ≡ []))
  unfolding initial_faults
  entries_mean = empty_three (facts_faults p side.Problem [] p.problem.facts) (fluents_faults p side.Problem [] p.problem.values) (repeated_values [] p.problem.values)

  problem_means : (problem_faults p ≡ []) ↔ ((object_faults p.domain p.problem.objects ≡ []) × (initial_faults p ≡ []) × (condition_faults p side.Problem [] p.problem.goal ≡ []))
  unfolding problem_faults
  problem_means = empty_three (object_faults p.domain p.problem.objects) (initial_faults p) (condition_faults p side.Problem [] p.problem.goal)

  pair_means : (faults_of p ≡ []) ↔ ((declaration_faults p.domain ≡ []) × (schemas_faults p ≡ []) × (problem_faults p ≡ []))
  unfolding faults_of
  pair_means = empty_three (declaration_faults p.domain) (schemas_faults p) (problem_faults p)

  all_uses : Each GoodUse (uses_of p) ↔ (Each GoodUse (flat_map schema_uses p.domain.schemas) × Each GoodUse (all_used side.Problem [] Predicate p.problem.facts)
      × Each GoodUse (all_used side.Problem [] Function (map (λ v. v.0) p.problem.values)) × Each GoodUse (uses_in side.Problem [] p.problem.goal))
  all_uses =
      each_four_append GoodUse (flat_map schema_uses p.domain.schemas) (all_used side.Problem [] Predicate p.problem.facts)
      (all_used side.Problem [] Function (map (λ v. v.0) p.problem.values)) (uses_in side.Problem [] p.problem.goal)

  goal_means : (condition_faults p side.Problem [] p.problem.goal ≡ [])
      ↔ (Each GoodUse (uses_in side.Problem [] p.problem.goal) × Each Unchanged (all_dividing (condition_parts p.problem.goal).numbers) × Each (IsMentioned p side.Problem []) (condition_parts p.problem.goal).objects)
  goal_means =
      let goal = condition_means p side.Problem [] p.problem.goal in
      let numbers = numbers_mean p side.Problem [] (condition_parts p.problem.goal).numbers in
      let inside = each_append GoodUse (all_used side.Problem [] Predicate (condition_parts p.problem.goal).facts) (all_used side.Problem [] Function (all_read (condition_parts p.problem.goal).numbers)) in
      let facts = used side.Problem [] Predicate (condition_parts p.problem.goal).facts in
      let reads = used side.Problem [] Function (all_read (condition_parts p.problem.goal).numbers) in (
        λ h.
            let g = goal.0 h in
            let n = numbers.0 g.1 in
            (inside.1 (facts.1 g.0, reads.1 n.0), n.1, g.2),
        λ h.
            let i = inside.0 h.0 in
            goal.1 (facts.0 i.0, numbers.1 (reads.0 i.1, h.1), h.2),
      )

  whole_from : faults_of p ≡ [] → Whole
  whole_from h =
      let parts = pair_means.0 h in
      let declarations = declarations_mean.0 parts.0 in
      let actions = actions_mean.0 parts.1 in
      let problem = problem_means.0 parts.2 in
      let entries = entries_mean.0 problem.1 in
      let goal = goal_means.0 problem.2 in
      let types = (types_mean p).0 declarations.0 in
      let objects = (objects_mean p).0 (declarations.1, problem.0) in
      let schemas = (schemas_mean p.domain.schemas).0 actions.1 in
      record {
        types_once = types.0;
        types_declared = types.1;
        no_cycle = types.2;
        constants_declared = objects.0;
        objects_declared = objects.1;
        objects_once = objects.2;
        heads_once = (heads_mean p.domain).0 declarations.2;
        predicates = (signatures_mean p p.domain.predicates).0 declarations.3;
        functions = (signatures_mean p p.domain.functions).0 declarations.4;
        schemas_once = (repeated_distinct side.Domain (schema_names p.domain.schemas)).0 actions.0;
        schemas = schemas.0;
        uses = all_uses.1 (schemas.1, facts_mean.0 entries.0, fluents_mean.0 entries.1, goal.0);
        divisors = (each_append Unchanged (flat_map schema_divisors p.domain.schemas) (all_dividing (condition_parts p.problem.goal).numbers)).1 (schemas.2, goal.1);
        compared = schemas.3;
        compared_last = goal.2;
        values_once = (values_mean p.problem.values).0 entries.2;
      }

  whole_to : Whole → faults_of p ≡ []
  whole_to w =
      let uses = all_uses.0 w.uses in
      let divisors = (each_append Unchanged (flat_map schema_divisors p.domain.schemas) (all_dividing (condition_parts p.problem.goal).numbers)).0 w.divisors in
      let objects = (objects_mean p).1 (w.constants_declared, w.objects_declared, w.objects_once) in
      pair_means.1 (
        declarations_mean.1
            ((types_mean p).1 (w.types_once, w.types_declared, w.no_cycle), objects.0, (heads_mean p.domain).1 w.heads_once, (signatures_mean p p.domain.predicates).1 w.predicates, (signatures_mean p p.domain.functions).1 w.functions),
        actions_mean.1 ((repeated_distinct side.Domain (schema_names p.domain.schemas)).1 w.schemas_once, (schemas_mean p.domain.schemas).1 (w.schemas, uses.0, divisors.0, w.compared)),
        problem_means.1 (objects.1, entries_mean.1 (facts_mean.1 uses.1, fluents_mean.1 uses.2, (values_mean p.problem.values).1 w.values_once), goal_means.1 (uses.3, divisors.1, w.compared_last)),
      )

  -- ---- the clauses

  abbrev Known : Use → Type 0
  Known u = IsKnown p u.side u.params u.sort u.atom

  abbrev Aried : Use → Type 0
  Aried u = HasArity p u.side u.params u.sort u.atom

  abbrev Fitted : Use → Type 0
  Fitted u = IsTyped p u.side u.params u.sort u.atom

  abbrev ArgumentsNamed : Use → Type 0
  ArgumentsNamed u = Each (IsNamed p u.side u.params) u.atom.args

  abbrev Mentioned : Mention → Type 0
  Mentioned m = IsNamed p m.side m.params m.arg

  uses_mean : Each GoodUse (uses_of p) ↔ (Each Known (uses_of p) × Each Aried (uses_of p) × Each Fitted (uses_of p) × Each ArgumentsNamed (uses_of p))
  uses_mean =
      chain (each_same GoodUse (λ u. Known u × Aried u × Fitted u × ArgumentsNamed u) (λ u. atom_means p u.side u.params u.sort u.atom) (uses_of p))
      (each_four Known Aried Fitted ArgumentsNamed (uses_of p))

  mentioned_in : (side : Side) (params : List Typed) (args : List Arg) → Each Mentioned (mentions_in side params args) ↔ Each (IsNamed p side params) args
  mentioned_in side params args = each_map Mentioned (λ a. record { side = side; params = params; arg = a }) args

  named_alone : (side : Side) (params : List Typed) (args : List Arg) → Each (IsMentioned p side params) args ↔ Each Mentioned (mentions_in side params args)
  named_alone side params args =
      chain (each_same (IsMentioned p side params) (IsNamed p side params) (λ a. chain (argument_means p side params None a) (λ h. h.0, λ h. (h, tt))) args) (back (mentioned_in side params args))

  mentions_mean : Each Mentioned (mentions_of p) ↔ (Each ArgumentsNamed (uses_of p) × Each (λ s. Each (IsMentioned p side.Domain s.params) (condition_parts s.pre).objects) p.domain.schemas
      × Each (IsMentioned p side.Problem []) (condition_parts p.problem.goal).objects)
  mentions_mean =
      let three = each_three_append Mentioned (flat_map (λ u. mentions_in u.side u.params u.atom.args) (uses_of p)) (flat_map (λ s. mentions_in side.Domain s.params (condition_parts s.pre).objects) p.domain.schemas)
      (mentions_in side.Problem [] (condition_parts p.problem.goal).objects) in
      let uses = chain (each_flat Mentioned (λ u. mentions_in u.side u.params u.atom.args) (uses_of p))
      (each_same (λ u. Each Mentioned (mentions_in u.side u.params u.atom.args)) ArgumentsNamed (λ u. mentioned_in u.side u.params u.atom.args) (uses_of p)) in
      let schemas = chain (each_flat Mentioned (λ s. mentions_in side.Domain s.params (condition_parts s.pre).objects) p.domain.schemas)
      (each_same (λ s. Each Mentioned (mentions_in side.Domain s.params (condition_parts s.pre).objects)) (λ s. Each (IsMentioned p side.Domain s.params) (condition_parts s.pre).objects)
      (λ s. back (named_alone side.Domain s.params (condition_parts s.pre).objects)) p.domain.schemas) in
      let goal = named_alone side.Problem [] (condition_parts p.problem.goal).objects in (
        λ h.
            let t = three.0 h in
            (uses.0 t.0, schemas.0 t.1, goal.1 t.2),
        λ h. three.1 (uses.1 h.0, schemas.1 h.1, goal.0 h.2),
      )

  abbrev Once : List Typed → Type 0
  Once params = AreDistinct (texts_of (names_of params))

  lists_mean : (Each (AreDeclared p) (typed_lists p) × Each Once (parameter_lists p)) ↔ (AreDeclared p p.domain.types × AreDeclared p p.domain.constants × AreDeclared p p.problem.objects
      × Each (HasParameters p) (map (λ s. s.params) p.domain.predicates) × Each (HasParameters p) (map (λ s. s.params) p.domain.functions) × Each (HasParameters p) (map (λ s. s.params) p.domain.schemas))
  lists_mean =
      let predicates = map (λ s. s.params) p.domain.predicates in
      let functions = map (λ s. s.params) p.domain.functions in
      let schemas = map (λ s. s.params) p.domain.schemas in
      let declared = each_three_append (AreDeclared p) (p.domain.types ∷ p.domain.constants ∷ p.problem.objects ∷ predicates) functions schemas in
      let once = each_three_append Once predicates functions schemas in
      let one = each_both (AreDeclared p) Once predicates in
      let two = each_both (AreDeclared p) Once functions in
      let three = each_both (AreDeclared p) Once schemas in (
        λ h.
            let d = declared.0 h.0 in
            let o = once.0 h.1 in
            (d.0.0, d.0.1.0, d.0.1.1.0, one.1 (d.0.1.1.1, o.0), two.1 (d.1, o.1), three.1 (d.2, o.2)),
        λ h.
            let a = one.0 h.3 in
            let b = two.0 h.4 in
            let c = three.0 h.5 in
            (declared.1 ((h.0, (h.1, (h.2, a.0))), b.0, c.0), once.1 (a.1, b.1, c.1)),
      )

  -- ---- what names mean, where each is declared once

  abbrev OnceUsed : Use → Type 0
  OnceUsed u = Once u.params

  abbrev OnceMentioned : Mention → Type 0
  OnceMentioned m = Once m.params

  used_once : (side : Side) (params : List Typed) (sort : Sort) (atoms : List Atom) → Once params → Each OnceUsed (all_used side params sort atoms)
  used_once side params sort atoms once =
      (each_map OnceUsed (λ a. record { side = side; params = params; sort = sort; atom = a }) atoms).1 (each_of_all (λ a. Once params) (λ a. once) atoms)

  inside_once : (side : Side) (params : List Typed) (c : Cond) → Once params → Each OnceUsed (uses_in side params c)
  inside_once side params c once =
      (each_append OnceUsed (all_used side params Predicate (condition_parts c).facts) (all_used side params Function (all_read (condition_parts c).numbers))).1
      (used_once side params Predicate (condition_parts c).facts once, used_once side params Function (all_read (condition_parts c).numbers) once)

  schema_once : (s : Schema) → Once s.params → Each OnceUsed (schema_uses s)
  schema_once s once =
      (each_four_append OnceUsed (uses_in side.Domain s.params s.pre) (all_used side.Domain s.params Predicate (flat_map fact_changed s.effects))
      (all_used side.Domain s.params Function (flat_map fluent_changed s.effects)) (all_used side.Domain s.params Function (all_read (flat_map right_sides s.effects)))).1 (
        inside_once side.Domain s.params s.pre once,
        used_once side.Domain s.params Predicate (flat_map fact_changed s.effects) once,
        used_once side.Domain s.params Function (flat_map fluent_changed s.effects) once,
        used_once side.Domain s.params Function (all_read (flat_map right_sides s.effects)) once,
      )

  abbrev SchemasOnce : Type 0
  SchemasOnce = Each (λ s. Once s.params) p.domain.schemas

  uses_once : SchemasOnce → Each OnceUsed (uses_of p)
  uses_once h = all_once.1 (
    (each_flat OnceUsed schema_uses p.domain.schemas).1 (each_from (λ s. Once s.params) (λ s. Each OnceUsed (schema_uses s)) schema_once p.domain.schemas h),
    used_once side.Problem [] Predicate p.problem.facts tt,
    used_once side.Problem [] Function (map (λ v. v.0) p.problem.values) tt,
    inside_once side.Problem [] p.problem.goal tt,
  )
    where
      all_once : Each OnceUsed (uses_of p) ↔ (Each OnceUsed (flat_map schema_uses p.domain.schemas) × Each OnceUsed (all_used side.Problem [] Predicate p.problem.facts)
          × Each OnceUsed (all_used side.Problem [] Function (map (λ v. v.0) p.problem.values)) × Each OnceUsed (uses_in side.Problem [] p.problem.goal))
      all_once =
          each_four_append OnceUsed (flat_map schema_uses p.domain.schemas) (all_used side.Problem [] Predicate p.problem.facts)
          (all_used side.Problem [] Function (map (λ v. v.0) p.problem.values)) (uses_in side.Problem [] p.problem.goal)

  mentioned_once : (side : Side) (params : List Typed) (args : List Arg) → Once params → Each OnceMentioned (mentions_in side params args)
  mentioned_once side params args once =
      (each_map OnceMentioned (λ a. record { side = side; params = params; arg = a }) args).1 (each_of_all (λ a. Once params) (λ a. once) args)

  mentions_once : SchemasOnce → Each OnceMentioned (mentions_of p)
  mentions_once h =
      (each_three_append OnceMentioned (flat_map (λ u. mentions_in u.side u.params u.atom.args) (uses_of p)) (flat_map (λ s. mentions_in side.Domain s.params (condition_parts s.pre).objects) p.domain.schemas)
      (mentions_in side.Problem [] (condition_parts p.problem.goal).objects)).1 (
        (each_flat OnceMentioned (λ u. mentions_in u.side u.params u.atom.args) (uses_of p)).1
            (each_from OnceUsed (λ u. Each OnceMentioned (mentions_in u.side u.params u.atom.args)) (λ u once. mentioned_once u.side u.params u.atom.args once) (uses_of p) (uses_once h)),
        (each_flat OnceMentioned (λ s. mentions_in side.Domain s.params (condition_parts s.pre).objects) p.domain.schemas).1
            (each_from (λ s. Once s.params) (λ s. Each OnceMentioned (mentions_in side.Domain s.params (condition_parts s.pre).objects))
            (λ s once. mentioned_once side.Domain s.params (condition_parts s.pre).objects once) p.domain.schemas h),
        mentioned_once side.Problem [] (condition_parts p.problem.goal).objects tt,
      )

  abbrev HeadsOnce : Type 0
  HeadsOnce = AreDistinct (texts_of (heads_of p.domain.predicates ++ heads_of p.domain.functions))

  abbrev ObjectsOnce : Type 0
  ObjectsOnce = AreDistinct (texts_of (names_of p.domain.constants ++ names_of p.problem.objects))

  abbrev KnownUse : Use → Type 0
  KnownUse u = (s : Sig) × Declares p.domain u.sort u.atom.head.text s

  abbrev AriedUse : Use → Type 0
  AriedUse u = (s : Sig) → Declares p.domain u.sort u.atom.head.text s → length s.params ≡ length u.atom.args

  abbrev FittedUse : Use → Type 0
  FittedUse u = (s : Sig) → Declares p.domain u.sort u.atom.head.text s → AreFitting p u.side u.params u.atom.args s.params

  abbrev MeantMention : Mention → Type 0
  MeantMention m = (t : Typed) × Means p m.side m.params m.arg t

  known_meant : HeadsOnce → (u : Use) → Known u ↔ KnownUse u
  known_meant heads u =
      let meant = declared_is_meant p.domain heads u.sort u.atom.head.text in
      (λ h. (h.0, (meant h.0).1 h.1), λ h. (h.0, (meant h.0).0 h.1))

  aried_meant : HeadsOnce → (u : Use) → Aried u ↔ AriedUse u
  aried_meant heads u =
      let meant = declared_is_meant p.domain heads u.sort u.atom.head.text in
      (λ h s d. h s ((meant s).0 d), λ h s e. h s ((meant s).1 e))

  all_fit : ObjectsOnce → (side : Side) (params : List Typed) → Once params → (args : List Arg) (wanted : List Typed) → AllFit p side params args wanted ↔ AreFitting p side params args wanted
  all_fit objects side params once [] wanted = same
  all_fit objects side params once (a ∷ args) [] = same
  all_fit objects side params once (a ∷ args) (w ∷ wanted) =
      let meant = argument_is_meant p objects side params once a in
      both (λ h own m. h own ((meant own).0 m), λ h own e. h own ((meant own).1 e)) (all_fit objects side params once args wanted)

  fitted_meant : HeadsOnce → ObjectsOnce → (u : Use) → OnceUsed u → Fitted u ↔ FittedUse u
  fitted_meant heads objects u once =
      let meant = declared_is_meant p.domain heads u.sort u.atom.head.text in
      let fit = λ (s : Sig). all_fit objects u.side u.params once u.atom.args s.params in
      (λ h s d. (fit s).0 (h s ((meant s).0 d)), λ h s e. (fit s).1 (h s ((meant s).1 e)))

  mention_meant : ObjectsOnce → (m : Mention) → OnceMentioned m → Mentioned m ↔ MeantMention m
  mention_meant objects m once =
      let meant = argument_is_meant p objects m.side m.params once m.arg in
      (λ h. (h.0, (meant h.0).1 h.1), λ h. (h.0, (meant h.0).0 h.1))

  all_known : HeadsOnce → Each Known (uses_of p) ↔ Each KnownUse (uses_of p)
  all_known heads = each_same Known KnownUse (known_meant heads) (uses_of p)

  all_aried : HeadsOnce → Each Aried (uses_of p) ↔ Each AriedUse (uses_of p)
  all_aried heads = each_same Aried AriedUse (aried_meant heads) (uses_of p)

  all_fitted : HeadsOnce → ObjectsOnce → SchemasOnce → Each Fitted (uses_of p) ↔ Each FittedUse (uses_of p)
  all_fitted heads objects schemas = each_under OnceUsed Fitted FittedUse (fitted_meant heads objects) (uses_of p) (uses_once schemas)

  all_mentioned : ObjectsOnce → SchemasOnce → Each Mentioned (mentions_of p) ↔ Each MeantMention (mentions_of p)
  all_mentioned objects schemas = each_under OnceMentioned Mentioned MeantMention (mention_meant objects) (mentions_of p) (mentions_once schemas)

  schemas_once_from : Each (HasParameters p) (map (λ s. s.params) p.domain.schemas) → SchemasOnce
  schemas_once_from h = each_from (λ s. HasParameters p s.params) (λ s. Once s.params) (λ s k. k.1) p.domain.schemas ((each_map (HasParameters p) (λ s. s.params) p.domain.schemas).0 h)

  unchanged_mean : Each Unchanged (divisors_of p) ↔ Each (λ a. Stands a.head.text (changed_functions p.domain) → ⊥) (divisors_of p)
  unchanged_mean = each_same Unchanged (λ a. Stands a.head.text (changed_functions p.domain) → ⊥) (λ a. none_stands bytes_eq bytes_decide a.head.text (changed_functions p.domain)) (divisors_of p)

  well_formed_from : Whole → WellFormed p
  well_formed_from w =
      let lists = lists_mean.1 (w.types_declared, w.constants_declared, w.objects_declared, w.predicates, w.functions, w.schemas) in
      let uses = uses_mean.0 w.uses in
      let schemas = schemas_once_from w.schemas in
      record {
        types_once = w.types_once;
        objects_once = w.objects_once;
        heads_once = w.heads_once;
        schemas_once = w.schemas_once;
        parameters_once = lists.1;
        values_once = w.values_once;
        types_declared = lists.0;
        no_cycle = w.no_cycle;
        heads_known = (all_known w.heads_once).0 uses.0;
        arguments_known = (all_mentioned w.objects_once schemas).0 (mentions_mean.1 (uses.3, w.compared, w.compared_last));
        arities_agree = (all_aried w.heads_once).0 uses.1;
        types_fit = (all_fitted w.heads_once w.objects_once schemas).0 uses.2;
        no_changed_divisor = unchanged_mean.0 w.divisors;
      }

  well_formed_to : WellFormed p → Whole
  well_formed_to w =
      let lists = lists_mean.0 (w.types_declared, w.parameters_once) in
      let schemas = schemas_once_from lists.5 in
      let mentions = mentions_mean.0 ((all_mentioned w.objects_once schemas).1 w.arguments_known) in
      record {
        types_once = w.types_once;
        types_declared = lists.0;
        no_cycle = w.no_cycle;
        constants_declared = lists.1;
        objects_declared = lists.2;
        objects_once = w.objects_once;
        heads_once = w.heads_once;
        predicates = lists.3;
        functions = lists.4;
        schemas_once = w.schemas_once;
        schemas = lists.5;
        uses = uses_mean.1 (
          (all_known w.heads_once).1 w.heads_known,
          (all_aried w.heads_once).1 w.arities_agree,
          (all_fitted w.heads_once w.objects_once schemas).1 w.types_fit,
          mentions.0,
        );
        divisors = unchanged_mean.1 w.no_changed_divisor;
        compared = mentions.1;
        compared_last = mentions.2;
        values_once = w.values_once;
      }

  -- a pair has no fault exactly where it is well formed
  pub faultless : (faults_of p ≡ []) ↔ WellFormed p
  faultless = (λ h. well_formed_from (whole_from h), λ w. whole_to (well_formed_to w))

  -- ---- of a well-formed pair the first declaration of a name is the one that the name means

  params_once : WellFormed p → SchemasOnce
  params_once w = schemas_once_from (lists_mean.0 (w.types_declared, w.parameters_once)).5

  pub known_signatures : WellFormed p → Each (λ u. (s : Sig) × (sig_of p.domain u.sort u.atom.head.text ≡ Some s)) (uses_of p)
  known_signatures w = (all_known w.heads_once).1 w.heads_known

  pub known_arguments : WellFormed p → Each (λ m. (t : Typed) × (named_by p m.side m.params m.arg ≡ Some t)) (mentions_of p)
  known_arguments w = (all_mentioned w.objects_once (params_once w)).1 w.arguments_known
