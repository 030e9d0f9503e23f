-- The atoms of a readable, well-formed pair under a binding to names consist of names.
use Rattle.std.proofs.Common.{◌≡◌, ◌++◌, ℕ, suc, Bool, true, false, List, [], ◌∷◌, map, length, All, refl, sym, ap, subst, ◌∙◌, inl, inr, arith}
use Rattle.std.specs.Prelude.{bytes_eq, flat_map, if◌then◌else◌}
use Rattle.std.specs.List.{list_all}
use Rattle.std.specs.FinSet as set
use Rattle.std.specs.FinMap as finite
use Rattle.std.proofs.lemmas.List.Elements.{All-head, All-tail}
use Rattle.std.proofs.lemmas.Slice.Eq.{bytes_eq-Decides}
use Rattle.num_ends.specs.Names.{is_name}
use Rattle.pddl_terms.specs.declared.names.Arg.{Arg}
use Rattle.pddl_terms.specs.declared.names.Arg.TheVariants.{Var, Obj}
use Rattle.pddl_terms.specs.declared.names.Atom.{Atom}
use Rattle.pddl_terms.specs.declared.names.Sig.{Sig}
use Rattle.pddl_terms.specs.declared.names.Typed.{Typed}
use Rattle.pddl_terms.specs.declared.actions.Schema.{Schema}
use Rattle.pddl_terms.specs.declared.expressions.Expr.{Expr}
use Rattle.pddl_terms.specs.Texts.{argument_text, ground_text, variable_text}
use Rattle.pddl_terms.specs.Readable.{IsReadable, IsReadableSignature, is_readable_item, is_short_name}
use Rattle.pddl_types.specs.declared.faults.Side.{Side}
use Rattle.pddl_types.specs.declared.faults.Side.TheVariants as side
use Rattle.pddl_types.specs.declared.pairs.Pair.{Pair}
use Rattle.pddl_types.specs.Contents.{Mention, Use, all_read, all_used, condition_parts, expression_reads, fact_changed, fluent_changed, mentions_in, right_sides, schema_uses, uses_in, uses_of}
use Rattle.pddl_types.specs.Pairs.{visible}
use Rattle.pddl_types.specs.WellFormed.{Declares, Each, Means, Stands, WellFormed, signatures_of}
use Rattle.static_facts.specs.Atoms.{atom_of, is_true_at_first, value_at_first}
use Rattle.static_facts.specs.Fixed.{is_fixed_function, is_fixed_predicate}
use Rattle.pddl_meaning.specs.Worlds.{WorldValue}
use Rattle.pddl_meaning.proofs.Bounds.{both_true, true_both}
use Rattle.ground_meaning.specs.Worlds.{IsLike}
use Rattle.ground_meaning.proofs.InitialWorld.{initial_fact, initial_value}
use Rattle.ground_meaning.proofs.Lists.{each_both, each_flat, each_left, each_more, each_right, each_stands}
use Rattle.ground_meaning.proofs.Names.{names_are_words}

pub member_passes : {A : Type 0} (test : A → Bool) (xs : List A) (x : A) → list_all test xs ≡ true → Stands x xs → test x ≡ true
member_passes test [] x h s = elim s [ ]
member_passes test (y ∷ ys) x h (inl e) = ap test e ∙ (both_true (test y) (list_all test ys) h).0
member_passes test (y ∷ ys) x h (inr s) = member_passes test ys x (both_true (test y) (list_all test ys) h).1 s

pub all_at : {A : Type 0} (P : A → Type 0) (xs : List A) (x : A) → All P xs → Stands x xs → P x
all_at P [] x h s = elim s [ ]
all_at P (y ∷ ys) x h (inl e) = subst P (sym e) (All-head P y ys h)
all_at P (y ∷ ys) x h (inr s) = all_at P ys x (All-tail P y ys h) s

-- a variable that is a parameter stands for an argument
bound_variable : (params : List Typed) (args : List (List ℕ)) (t : Typed) → length args ≡ length params → list_all is_name args ≡ true → Stands t params
    → is_name (variable_text params args t.name.text) ≡ true
bound_variable [] args t same named s = elim s [ ]
bound_variable (p ∷ params) [] t same named s = let bad : suc (length params) ≡ 0 = sym same in absurd (omega (arith, bad))
bound_variable (p ∷ params) (a ∷ args) t same named s = by_test (bytes_eq t.name.text p.name.text) refl (λ r. bound_variable params args t (omega (arith, same)) parts.1 r)
  where
    parts : (is_name a ≡ true) × (list_all is_name args ≡ true)
    parts = both_true (is_name a) (list_all is_name args) named

    later : Stands t (p ∷ params) → bytes_eq t.name.text p.name.text ≡ false → Stands t params
    later (inl e) other = let bad = sym other ∙ (bytes_eq-Decides t.name.text p.name.text).1 (ap (λ (u : Typed). u.name.text) e) in cc
    later (inr r) other = r

    by_test : (test : Bool) → bytes_eq t.name.text p.name.text ≡ test → (Stands t params → is_name (variable_text params args t.name.text) ≡ true)
        → is_name (if test then a else variable_text params args t.name.text) ≡ true
    by_test true is more = parts.0
    by_test false is more = more (later s is)

module _ (p : Pair) (readable : IsReadable p.domain p.problem) (formed : WellFormed p) where
  abbrev IsMeant : Mention → Type 0
  IsMeant m = (t : Typed) × Means p m.side m.params m.arg t

  -- each argument of an atom means something
  abbrev pub Mean : Side → List Typed → List Arg → Type 0
  Mean at params arguments = Each IsMeant (mentions_in at params arguments)

  -- an atom's name is declared, and each of its arguments means something
  abbrev IsKnown : Use → Type 0
  IsKnown u =
      ((s : Sig) × Declares p.domain u.sort u.atom.head.text s)
      × ((s : Sig) → Declares p.domain u.sort u.atom.head.text s → length s.params ≡ length u.atom.args)
      × Mean u.side u.params u.atom.args

  -- an atom's name is that of one of these predicates or functions, with as many arguments as this has
  abbrev pub IsOf : List Sig → Atom → Type 0
  IsOf sigs a = (s : Sig) × Stands s sigs × (a.head.text ≡ s.name.text) × (length s.params ≡ length a.args)

  -- and each of its arguments means something
  abbrev pub IsBound : Side → List Typed → List Sig → Atom → Type 0
  IsBound at params sigs a = (is_name a.head.text ≡ true) × IsOf sigs a × Mean at params a.args

  all_known : Each IsKnown (uses_of p)
  all_known =
      let arguments : List Mention = flat_map (λ (u : Use). mentions_in u.side u.params u.atom.args) (uses_of p) in
      let compared : List Mention = flat_map (λ (s : Schema). mentions_in side.Domain s.params (condition_parts s.pre).objects) p.domain.schemas in
      let in_goal : List Mention = mentions_in side.Problem [] (condition_parts p.problem.goal).objects in
      let known : Each IsMeant ((arguments ++ compared) ++ in_goal) = formed.arguments_known in
      let meant = each_flat IsMeant (λ (u : Use). mentions_in u.side u.params u.atom.args) (uses_of p) (each_left IsMeant arguments compared (each_left IsMeant (arguments ++ compared) in_goal known)) in
      each_more _ IsKnown (uses_of p) (λ u h. (h.0, h.1.0, h.1.1)) (each_both _ _ (uses_of p) formed.heads_known (each_both _ _ (uses_of p) formed.arities_agree meant))

  bound_all : (at : Side) (params : List Typed) (sort : _) (atoms : List Atom) → ((s : Sig) → Stands s (signatures_of p.domain sort) → is_name s.name.text ≡ true)
      → Each IsKnown (all_used at params sort atoms) → Each (IsBound at params (signatures_of p.domain sort)) atoms
  bound_all at params sort [] named h = tt
  bound_all at params sort (a ∷ atoms) named h =
      let sig = h.0.0.0 in
      let declared = h.0.0.1 in (
        (ap is_name declared.named ∙ named sig declared.stands, (sig, declared.stands, declared.named, h.0.1 sig declared), h.0.2),
        bound_all at params sort atoms named h.1,
      )

  predicate_named : (s : Sig) → Stands s p.domain.predicates → is_name s.name.text ≡ true
  predicate_named s stands = (both_true (is_name s.name.text) _ (all_at IsReadableSignature p.domain.predicates s readable.domain.predicates stands).name).0

  function_named : (s : Sig) → Stands s p.domain.functions → is_name s.name.text ≡ true
  function_named s stands = (both_true (is_name s.name.text) _ (all_at IsReadableSignature p.domain.functions s readable.domain.functions stands).name).0

  reads_bound : (at : Side) (params : List Typed) (es : List Expr) → Each (IsBound at params p.domain.functions) (all_read es) → Each (λ x. Each (IsBound at params p.domain.functions) (expression_reads x).all) es
  reads_bound at params es h = each_flat (IsBound at params p.domain.functions) (λ (x : Expr). (expression_reads x).all) es h

  -- ---- the atoms of an action

  effect_facts : (s : Schema) (sort other : _) → ((g : Sig) → Stands g (signatures_of p.domain sort) → is_name g.name.text ≡ true)
      → Each IsKnown
      (((uses_in side.Domain s.params s.pre ++ all_used side.Domain s.params sort (flat_map fact_changed s.effects)) ++ all_used side.Domain s.params other (flat_map fluent_changed s.effects))
      ++ all_used side.Domain s.params other (all_read (flat_map right_sides s.effects)))
      → Each (IsBound side.Domain s.params (signatures_of p.domain sort)) (flat_map fact_changed s.effects)
  effect_facts s sort other named h =
      let before : List Use = uses_in side.Domain s.params s.pre in
      let facts : List Use = all_used side.Domain s.params sort (flat_map fact_changed s.effects) in
      let fluents : List Use = all_used side.Domain s.params other (flat_map fluent_changed s.effects) in
      let reads : List Use = all_used side.Domain s.params other (all_read (flat_map right_sides s.effects)) in
      bound_all side.Domain s.params sort (flat_map fact_changed s.effects) named
      (each_right IsKnown before facts (each_left IsKnown (before ++ facts) fluents (each_left IsKnown ((before ++ facts) ++ fluents) reads h)))

  effect_fluents : (s : Schema) (other sort : _) → ((g : Sig) → Stands g (signatures_of p.domain sort) → is_name g.name.text ≡ true)
      → Each IsKnown
      (((uses_in side.Domain s.params s.pre ++ all_used side.Domain s.params other (flat_map fact_changed s.effects)) ++ all_used side.Domain s.params sort (flat_map fluent_changed s.effects))
      ++ all_used side.Domain s.params sort (all_read (flat_map right_sides s.effects)))
      → Each (IsBound side.Domain s.params (signatures_of p.domain sort)) (flat_map fluent_changed s.effects)
  effect_fluents s other sort named h =
      let before : List Use = uses_in side.Domain s.params s.pre in
      let facts : List Use = all_used side.Domain s.params other (flat_map fact_changed s.effects) in
      let fluents : List Use = all_used side.Domain s.params sort (flat_map fluent_changed s.effects) in
      let reads : List Use = all_used side.Domain s.params sort (all_read (flat_map right_sides s.effects)) in
      bound_all side.Domain s.params sort (flat_map fluent_changed s.effects) named
      (each_right IsKnown (before ++ facts) fluents (each_left IsKnown ((before ++ facts) ++ fluents) reads h))

  module _ (s : Schema) (stands : Stands s p.domain.schemas) where
    schema_known : Each IsKnown (schema_uses s)
    schema_known =
        each_stands (λ (z : Schema). Each IsKnown (schema_uses z)) p.domain.schemas s
        (each_flat IsKnown schema_uses p.domain.schemas (each_left IsKnown _ _ (each_left IsKnown _ _ (each_left IsKnown _ _ all_known)))) stands

    pre_known : Each IsKnown (uses_in side.Domain s.params s.pre)
    pre_known = each_left IsKnown _ _ (each_left IsKnown _ _ (each_left IsKnown _ _ schema_known))

    pub pre_facts : Each (IsBound side.Domain s.params p.domain.predicates) (condition_parts s.pre).facts
    pre_facts = bound_all side.Domain s.params _ (condition_parts s.pre).facts predicate_named (each_left IsKnown _ _ pre_known)

    pub pre_reads : Each (λ x. Each (IsBound side.Domain s.params p.domain.functions) (expression_reads x).all) (condition_parts s.pre).numbers
    pre_reads =
        reads_bound side.Domain s.params (condition_parts s.pre).numbers
        (bound_all side.Domain s.params _ (all_read (condition_parts s.pre).numbers) function_named (each_right IsKnown _ _ pre_known))

    pub changed_facts : Each (IsBound side.Domain s.params p.domain.predicates) (flat_map fact_changed s.effects)
    changed_facts = effect_facts s _ _ predicate_named schema_known

    pub changed_fluents : Each (IsBound side.Domain s.params p.domain.functions) (flat_map fluent_changed s.effects)
    changed_fluents = effect_fluents s _ _ function_named schema_known

    pub right_side_reads : Each (λ x. Each (IsBound side.Domain s.params p.domain.functions) (expression_reads x).all) (flat_map right_sides s.effects)
    right_side_reads =
        reads_bound side.Domain s.params (flat_map right_sides s.effects)
        (bound_all side.Domain s.params _ (all_read (flat_map right_sides s.effects)) function_named (each_right IsKnown _ _ schema_known))

  -- ---- the atoms of the goal

  goal_known : Each IsKnown (uses_in side.Problem [] p.problem.goal)
  goal_known = each_right IsKnown _ _ all_known

  pub goal_facts : Each (IsBound side.Problem [] p.domain.predicates) (condition_parts p.problem.goal).facts
  goal_facts = bound_all side.Problem [] _ (condition_parts p.problem.goal).facts predicate_named (each_left IsKnown _ _ goal_known)

  pub goal_reads : Each (λ x. Each (IsBound side.Problem [] p.domain.functions) (expression_reads x).all) (condition_parts p.problem.goal).numbers
  goal_reads =
      reads_bound side.Problem [] (condition_parts p.problem.goal).numbers
      (bound_all side.Problem [] _ (all_read (condition_parts p.problem.goal).numbers) function_named (each_right IsKnown _ _ goal_known))

  -- ---- under a binding

  item_named : (t : Typed) → is_readable_item t ≡ true → is_name t.name.text ≡ true
  item_named t h = (both_true (is_name t.name.text) _ (both_true (is_short_name t.name.text) (is_short_name t.kind.text) h).0).0

  joined_pass : {A : Type 0} (test : A → Bool) (xs ys : List A) → list_all test xs ≡ true → list_all test ys ≡ true → list_all test (xs ++ ys) ≡ true
  joined_pass test [] ys h k = k
  joined_pass test (x ∷ xs) ys h k = let parts = both_true (test x) (list_all test xs) h in true_both _ _ parts.0 (joined_pass test xs ys parts.1 k)

  object_named : (at : Side) (t : Typed) → Stands t (visible p at) → is_name t.name.text ≡ true
  object_named side.Domain t s = item_named t (member_passes is_readable_item p.domain.constants t readable.domain.constants s)
  object_named side.Problem t s =
      item_named t (member_passes is_readable_item (p.domain.constants ++ p.problem.objects) t
      (joined_pass is_readable_item p.domain.constants p.problem.objects readable.domain.constants readable.problem.objects) s)

  module _ (args : List (List ℕ)) (named : list_all is_name args ≡ true) where
    argument_named : (at : Side) (params : List Typed) → length args ≡ length params → (a : Arg) (t : Typed) → Means p at params a t → is_name (argument_text params args a) ≡ true
    argument_named at params same (Var n) t m = ap (λ (v : List ℕ). is_name (variable_text params args v)) m.1 ∙ bound_variable params args t same named m.0
    argument_named at params same (Obj n) t m = ap is_name m.1 ∙ object_named at t m.0

    arguments_named : (at : Side) (params : List Typed) → length args ≡ length params → (arguments : List Arg) → Mean at params arguments
        → list_all is_name (map (argument_text params args) arguments) ≡ true
    arguments_named at params same [] h = refl
    arguments_named at params same (a ∷ arguments) h = true_both _ _ (argument_named at params same a h.0.0 h.0.1) (arguments_named at params same arguments h.1)

    pub bound_names : (at : Side) (params : List Typed) (sigs : List Sig) (a : Atom) → length args ≡ length params → IsBound at params sigs a → list_all is_name (atom_of params args a) ≡ true
    bound_names at params sigs a same known = true_both _ _ known.0 (arguments_named at params same a.args known.2)

    -- ---- what is fixed in a world that is like the initial one

    module _ (w : WorldValue) (like : IsLike p w) (at : Side) (params : List Typed) (same : length args ≡ length params) where
      pub fixed_value : (a : Atom) → IsBound at params p.domain.functions a → is_fixed_function p a.head.text ≡ true → finite.get w.values (ground_text params args a) ≡ value_at_first p (atom_of params args a)
      unfolding ground_text
      fixed_value a known is =
          let names = bound_names at params p.domain.functions a same known in
          like.fixed_values a.head.text (map (argument_text params args) a.args) names is
          ∙ initial_value a.head.text (map (argument_text params args) a.args) (names_are_words (atom_of params args a) names) p readable.problem.values

      pub fixed_fact : (a : Atom) → IsBound at params p.domain.predicates a → is_fixed_predicate p a.head.text ≡ true → set.contains w.facts (ground_text params args a) ≡ is_true_at_first p (atom_of params args a)
      unfolding ground_text
      fixed_fact a known is =
          let names = bound_names at params p.domain.predicates a same known in
          like.fixed_facts a.head.text (map (argument_text params args) a.args) names is
          ∙ initial_fact a.head.text (map (argument_text params args) a.args) (names_are_words (atom_of params args a) names) p readable.problem.facts
