-- Which bindings are ready, by the first values of the fluents that are read and by the codes of those that are changed.
use Rattle.std.proofs.Common.{◌≡◌, ◌<◌, ◌&&◌, ◌||◌, ◌==◌, ◌++◌, ℕ, suc, Bool, true, false, not, List, [], ◌∷◌, map, length, All, refl, sym, ap, ap₂, subst, ◌∙◌, eqb-true}
use Rattle.std.specs.Prelude.{bytes_eq, flat_map, is_some, if◌then◌else◌}
use Rattle.std.specs.List.{list_all}
use Rattle.std.specs.FinMap as finite
use Rattle.std.proofs.lemmas.Grind.{flat_map-append}
use Rattle.std.proofs.lemmas.List.Elements.{All-head, All-tail}
use Rattle.std.proofs.lemmas.List.Folds.{list_all-append}
use Rattle.std.proofs.lemmas.Slice.Eq.{bytes_eq-Decides}
use Rattle.num_ends.specs.Names.{is_name}
use Rattle.pddl_terms.specs.declared.names.Atom.{Atom}
use Rattle.pddl_terms.specs.declared.names.Typed.{Typed}
use Rattle.pddl_terms.specs.declared.expressions.Expr.{Expr}
use Rattle.pddl_terms.specs.declared.conditions.Cond.{Cond}
use Rattle.pddl_terms.specs.declared.actions.Assign.{Assign}
use Rattle.pddl_terms.specs.declared.actions.Assign.TheVariants as how
use Rattle.pddl_terms.specs.declared.actions.Effect.{Effect}
use Rattle.pddl_terms.specs.declared.actions.Effect.TheVariants as effect
use Rattle.pddl_terms.specs.declared.actions.Schema.{Schema}
use Rattle.pddl_terms.specs.Readable.{IsReadable}
use Rattle.pddl_terms.specs.Texts.{ground_text}
use Rattle.pddl_terms.proofs.Induction.{induct_condition, induct_expression}
use Rattle.pddl_types.specs.declared.faults.Side.TheVariants as side
use Rattle.pddl_types.specs.declared.pairs.Pair.{Pair}
use Rattle.pddl_types.specs.Contents.{Parts, all_read, condition_parts, condition_parts_layer, expression_reads, fluent_changed, right_sides}
use Rattle.pddl_types.specs.Pairs.{objects_of}
use Rattle.pddl_types.specs.WellFormed.{Each, Stands, WellFormed}
use Rattle.static_facts.specs.Atoms.{atom_of, names, text_of_atom, value_at_first}
use Rattle.static_facts.specs.Codes.{fluent_code}
use Rattle.pddl_meaning.specs.Worlds.{WorldValue, initial_world}
use Rattle.pddl_meaning.specs.Values.{reads_defined}
use Rattle.pddl_meaning.specs.Truth.{is_defined}
use Rattle.pddl_meaning.specs.Effects.{NumericEffect, are_compatible, are_effects_defined, is_effect_defined, is_joined, numeric_effect_by, numeric_effects, reads_old}
use Rattle.pddl_meaning.specs.Steps.{is_ready}
use Rattle.pddl_meaning.proofs.Bounds.{true_both}
use Rattle.pddl_meaning.proofs.Folds.{fold-And, fold-Or, fold-Not, fold-Imply, fold-Fact, fold-Same, fold-Cmp, fold-Lit}
use Rattle.pddl_meaning.proofs.Layers.{each_And, each_Cmp, each_Fact, each_Imply, each_Not, each_Or, each_Same, reads_of_Lit, reads_of_Op, reads_of_Read}
use Rattle.pddl_types.specs.Contents.{Reads, expression_reads_layer}
use Rattle.ground_meaning.specs.Tasks.{IsFluent}
use Rattle.ground_meaning.proofs.BoundAtoms.{bound_names, changed_fluents, pre_reads, right_side_reads}
use Rattle.ground_meaning.proofs.ExpressionFolds.{reads_of_operation, reads_of_read}
use Rattle.ground_meaning.proofs.InitialWorld.{initial_value}
use Rattle.ground_meaning.proofs.LegalArguments.{objects_named}
use Rattle.ground_meaning.proofs.Lists.{each_joined}
use Rattle.ground_meaning.proofs.Names.{names_are_words}
use Rattle.ground_meaning.proofs.ReadyEffects.{GoodFluent, all_objects, fluent_there, told}
use Rattle.bound_actions.specs.Reads.{action_reads, are_apart, clash, clash_with, clashes, effect_reads, is_ready_at_first, is_set, may_clash, old_read}
use Rattle.ground_meaning.proofs.CodedAtoms.{same_code}
use Rattle.bound_actions.proofs.Conflicts.{agree, compatible_step, same_bytes}

-- ---- tests

only_one : (b : Bool) → b ≡ (b && true)
only_one true = refl
only_one false = refl

grouped : (a b c : Bool) → ((a && b) && c) ≡ (a && (b && c))
grouped true b c = refl
grouped false b c = refl

-- tests that agree on each member agree on a list
pub all_agree : {A : Type 0} (f g : A → Bool) (xs : List A) → Each (λ x. f x ≡ g x) xs → list_all f xs ≡ list_all g xs
all_agree f g [] h = refl
all_agree f g (x ∷ xs) h = ap₂ (λ (a b : Bool). a && b) h.0 (all_agree f g xs h.1)

-- ---- what is read is defined

module _ (params : List Typed) (args : List (List ℕ)) (w : WorldValue) where
  abbrev has_value : Atom → Bool
  has_value a = finite.contains_key w.values (ground_text params args a)

  abbrev have_values : List Atom → Bool
  have_values = list_all has_value

  all_in_expression : (x : Expr) → reads_defined params args w x ≡ have_values (expression_reads x).all
  all_in_expression =
      induct_expression (λ x. reads_defined params args w x ≡ have_values (expression_reads x).all)
      (λ d at. reads_of_Lit params args w d at ∙ sym (ap (λ (r : Reads). have_values r.all) (fold-Lit expression_reads_layer d at)))
      (λ a. reads_of_Read params args w a ∙ only_one (has_value a) ∙ sym (ap have_values (reads_of_read a)))
      (λ at o x y f g.
      reads_of_Op params args w at o x y ∙ ap₂ (λ (s t : Bool). s && t) f g ∙ sym (list_all-append has_value (expression_reads x).all (expression_reads y).all)
      ∙ sym (ap have_values (reads_of_operation at o x y)))

  read_two : (xs ys : List Expr) → have_values (all_read (xs ++ ys)) ≡ (have_values (all_read xs) && have_values (all_read ys))
  read_two xs ys = ap have_values (flat_map-append (λ (x : Expr). (expression_reads x).all) xs ys) ∙ list_all-append has_value (all_read xs) (all_read ys)

  abbrev IsRead : Cond → Type 0
  IsRead c = is_defined params args w c ≡ have_values (all_read (condition_parts c).numbers)

  members : (cs : List Cond) → All IsRead cs → list_all (is_defined params args w) cs ≡ have_values (all_read (flat_map (λ (q : Parts). q.numbers) (map condition_parts cs)))
  members [] all = refl
  members (c ∷ cs) all =
      ap₂ (λ (s t : Bool). s && t) (All-head IsRead c cs all) (members cs (All-tail IsRead c cs all))
      ∙ sym (read_two (condition_parts c).numbers (flat_map (λ (q : Parts). q.numbers) (map condition_parts cs)))

  abbrev of_parts : Parts → Bool
  of_parts q = have_values (all_read q.numbers)

  all_in_condition : (c : Cond) → IsRead c
  all_in_condition = induct_condition IsRead (record {
    conjunction = λ cs all. each_And _ cs ∙ members cs all ∙ sym (ap of_parts (fold-And condition_parts_layer cs));
    disjunction = λ cs all. each_Or _ cs ∙ members cs all ∙ sym (ap of_parts (fold-Or condition_parts_layer cs));
    negation = λ c f. each_Not _ c ∙ f ∙ sym (ap of_parts (fold-Not condition_parts_layer c));
    implication = λ b c f g.
        each_Imply _ b c ∙ ap₂ (λ (s t : Bool). s && t) f (g ∙ last_two c) ∙ sym (read_two (condition_parts b).numbers ((condition_parts c).numbers ++ []))
        ∙ sym (ap of_parts (fold-Imply condition_parts_layer b c));
    fact = λ a. each_Fact _ a ∙ sym (ap of_parts (fold-Fact condition_parts_layer a));
    equal = λ a b. each_Same _ a b ∙ sym (ap of_parts (fold-Same condition_parts_layer a b));
    compare = λ r x y.
        each_Cmp _ r x y ∙ ap₂ (λ (s t : Bool). s && t) (all_in_expression x) (all_in_expression y ∙ last_read y) ∙ sym (list_all-append has_value (expression_reads x).all (all_read (y ∷ [])))
        ∙ sym (ap of_parts (fold-Cmp condition_parts_layer r x y));
  })
    where
      last_two : (c : Cond) → have_values (all_read (condition_parts c).numbers) ≡ have_values (all_read ((condition_parts c).numbers ++ []))
      last_two c = only_one _ ∙ sym (read_two (condition_parts c).numbers [])

      last_read : (y : Expr) → have_values (expression_reads y).all ≡ have_values (all_read (y ∷ []))
      last_read y = only_one _ ∙ sym (list_all-append has_value (expression_reads y).all [])

  old_has_value : (how : Assign) (a : Atom) → (not (reads_old how) || has_value a) ≡ have_values (old_read how a)
  old_has_value how.Set a = refl
  old_has_value how.Up a = only_one (has_value a)
  old_has_value how.Down a = only_one (has_value a)
  old_has_value how.Scale a = only_one (has_value a)

  all_in_effects : (effects : List Effect) → are_effects_defined params args w (numeric_effects params args effects) ≡ have_values (flat_map effect_reads effects)
  unfolding are_effects_defined numeric_effects
  all_in_effects [] = refl
  all_in_effects (effect.Add a ∷ effects) = all_in_effects effects
  all_in_effects (effect.Del a ∷ effects) = all_in_effects effects
  all_in_effects (effect.Num how a x ∷ effects) =
      ap₂ (λ (s t : Bool). s && t)
      (ap₂ (λ (s t : Bool). s && t) (all_in_expression x) (old_has_value how a) ∙ sym (list_all-append has_value (expression_reads x).all (old_read how a))) (all_in_effects effects)
      ∙ sym (list_all-append has_value ((expression_reads x).all ++ old_read how a) (flat_map effect_reads effects))

  all_in_action : (s : Schema) → params ≡ s.params
      → (is_defined params args w s.pre && are_effects_defined params args w (numeric_effects params args s.effects)) ≡ have_values (action_reads s)
  all_in_action s same =
      ap₂ (λ (s t : Bool). s && t) (all_in_condition s.pre) (all_in_effects s.effects)
      ∙ sym (list_all-append has_value (all_read (condition_parts s.pre).numbers) (flat_map effect_reads s.effects))

-- ---- the atoms that are read are atoms of the pair

module _ (p : Pair) (readable : IsReadable p.domain p.problem) (formed : WellFormed p) (s : Schema) (stands : Stands s p.domain.schemas) (os : List ℕ) (known : Each (λ o. o < length (objects_of p)) os) (as_many : length os ≡ length s.params) where
  abbrev Good : Atom → Type 0
  Good = GoodFluent p readable formed s os known as_many

  each_read : (xs : List Expr) → Each (λ x. Each Good (expression_reads x).all) xs → Each Good (all_read xs)
  each_read [] h = tt
  each_read (x ∷ xs) h = each_joined Good (expression_reads x).all (all_read xs) h.0 (each_read xs h.1)

  old_good : (how : Assign) (a : Atom) → Good a → Each Good (old_read how a)
  old_good how.Set a good = tt
  old_good how.Up a good = (good, tt)
  old_good how.Down a good = (good, tt)
  old_good how.Scale a good = (good, tt)

  each_in_effects : (effects : List Effect) → Each Good (flat_map fluent_changed effects) → Each (λ x. Each Good (expression_reads x).all) (flat_map right_sides effects)
      → Each Good (flat_map effect_reads effects)
  each_in_effects [] changed reads = tt
  each_in_effects (effect.Add a ∷ effects) changed reads = each_in_effects effects changed reads
  each_in_effects (effect.Del a ∷ effects) changed reads = each_in_effects effects changed reads
  each_in_effects (effect.Num how a x ∷ effects) changed reads =
      each_joined Good ((expression_reads x).all ++ old_read how a) (flat_map effect_reads effects)
      (each_joined Good (expression_reads x).all (old_read how a) reads.0 (old_good how a changed.0)) (each_in_effects effects changed.1 reads.1)

  each_in_action : Each Good (action_reads s)
  each_in_action =
      each_joined Good (all_read (condition_parts s.pre).numbers) (flat_map effect_reads s.effects) (each_read (condition_parts s.pre).numbers (pre_reads p readable formed s stands))
      (each_in_effects s.effects (changed_fluents p readable formed s stands) (right_side_reads p readable formed s stands))

  named : list_all is_name (names p os) ≡ true
  named = objects_named p (all_objects p readable) os known

  many : length (names p os) ≡ length s.params
  many = length_map os ∙ as_many
    where
      length_map : (xs : List ℕ) → length (names p xs) ≡ length xs
      length_map [] = refl
      length_map (x ∷ xs) = ap (λ (n : ℕ). suc n) (length_map xs)

  -- ---- values of the initial world

  value_there : (a : Atom) → Good a → finite.contains_key (initial_world p).values (ground_text s.params (names p os) a) ≡ is_set p s.params (names p os) a
  unfolding ground_text
  value_there a good =
      let words = bound_names p readable formed (names p os) named side.Domain s.params p.domain.functions a many good in
      ap is_some (initial_value a.head.text (map _ a.args) (names_are_words (atom_of s.params (names p os) a) words) p readable.problem.values)

  values_there : (atoms : List Atom) → Each Good atoms → Each (λ a. has_value s.params (names p os) (initial_world p) a ≡ is_set p s.params (names p os) a) atoms
  values_there [] h = tt
  values_there (a ∷ atoms) h = (value_there a h.0, values_there atoms h.1)

  -- ---- conflicts by codes

  abbrev by_texts : Assign → Atom → Assign → Atom → Bool
  by_texts how a other b = (is_joined how && is_joined other) || not (bytes_eq (ground_text s.params (names p os) a) (ground_text s.params (names p os) b))

  same_fluent : (a b : Atom) → Good a → Good b
      → (fluent_code p (atom_of s.params (names p os) a) == fluent_code p (atom_of s.params (names p os) b)) ≡ bytes_eq (ground_text s.params (names p os) a) (ground_text s.params (names p os) b)
  unfolding ground_text
  same_fluent a b good fine =
      told p readable p.domain.functions readable.domain.functions (atom_of s.params (names p os) a) (atom_of s.params (names p os) b) (fluent_there p readable formed s os known as_many a good)
      (fluent_there p readable formed s os known as_many b fine)
      ∙ same_bytes (text_of_atom (atom_of s.params (names p os) b)) (text_of_atom (atom_of s.params (names p os) a))

  same_heads : (a b : Atom) → Good a → Good b → bytes_eq (ground_text s.params (names p os) a) (ground_text s.params (names p os) b) ≡ true → a.head.text ≡ b.head.text
  same_heads a b good fine same =
      let atoms : atom_of s.params (names p os) a ≡ atom_of s.params (names p os) b =
      same_code p readable p.domain.functions (atom_of s.params (names p os) a) (atom_of s.params (names p os) b) (fluent_there p readable formed s os known as_many a good)
      (fluent_there p readable formed s os known as_many b fine) (eqb-true _ _ (same_fluent a b good fine ∙ same)) in
      cc

  other_text : (a b : Atom) → Good a → Good b → bytes_eq a.head.text b.head.text ≡ false → bytes_eq (ground_text s.params (names p os) a) (ground_text s.params (names p os) b) ≡ false
  other_text a b good fine heads = by_test (bytes_eq (ground_text s.params (names p os) a) (ground_text s.params (names p os) b)) refl
    where
      by_test : (test : Bool) → bytes_eq (ground_text s.params (names p os) a) (ground_text s.params (names p os) b) ≡ test → test ≡ false
      by_test true is = let bad = sym heads ∙ (bytes_eq-Decides a.head.text b.head.text).1 (same_heads a b good fine is) in cc
      by_test false is = refl

  by_codes : (how : Assign) (a : Atom) (other : Assign) (b : Atom) → Good a → Good b
      → by_texts how a other b ≡ list_all (are_apart p s.params (names p os)) (if may_clash how a other b then (a, b) ∷ [] else [])
  by_codes how a other b good fine = by_tests (is_joined how && is_joined other) (bytes_eq a.head.text b.head.text) (other_text a b good fine)
    where
      by_tests : (joined heads : Bool) → (heads ≡ false → bytes_eq (ground_text s.params (names p os) a) (ground_text s.params (names p os) b) ≡ false)
          → (joined || not (bytes_eq (ground_text s.params (names p os) a) (ground_text s.params (names p os) b)))
          ≡ list_all (are_apart p s.params (names p os)) (if not joined && heads then (a, b) ∷ [] else [])
      by_tests true heads differ = refl
      by_tests false true differ = ap not (sym (same_fluent a b good fine)) ∙ only_one _
      by_tests false false differ = ap not (differ refl)

  later : (how : Assign) (a : Atom) (x : Expr) → Good a → (effects : List Effect) → Each Good (flat_map fluent_changed effects)
      → list_all (agree (record { how = how; fluent = ground_text s.params (names p os) a; by = x })) (flat_map (numeric_effect_by s.params (names p os)) effects)
      ≡ list_all (are_apart p s.params (names p os)) (flat_map (clash_with how a) effects)
  later how a x good [] changed = refl
  later how a x good (effect.Add b ∷ effects) changed = later how a x good effects changed
  later how a x good (effect.Del b ∷ effects) changed = later how a x good effects changed
  later how a x good (effect.Num other b y ∷ effects) changed =
      ap₂ (λ (s t : Bool). s && t) (by_codes how a other b good changed.0) (later how a x good effects changed.1)
      ∙ sym (list_all-append (are_apart p s.params (names p os)) (clash_with how a (effect.Num other b y)) (flat_map (clash_with how a) effects))

  none_with : (e : Effect) → ((d : Effect) → clash e d ≡ []) → (effects : List Effect) → flat_map (clash e) effects ≡ []
  none_with e none [] = refl
  none_with e none (d ∷ effects) = ap₂ (λ (xs ys : List (Atom × Atom)). xs ++ ys) (none d) (none_with e none effects)

  compatible_clashes : (effects : List Effect) → Each Good (flat_map fluent_changed effects)
      → are_compatible (flat_map (numeric_effect_by s.params (names p os)) effects) ≡ list_all (are_apart p s.params (names p os)) (clashes effects)
  unfolding are_compatible
  compatible_clashes [] changed = refl
  compatible_clashes (effect.Add a ∷ effects) changed =
      compatible_clashes effects changed
      ∙ ap (λ (cs : List (Atom × Atom)). list_all (are_apart p s.params (names p os)) (cs ++ clashes effects)) (sym (none_with (effect.Add a) (λ d. refl) effects))
  compatible_clashes (effect.Del a ∷ effects) changed =
      compatible_clashes effects changed
      ∙ ap (λ (cs : List (Atom × Atom)). list_all (are_apart p s.params (names p os)) (cs ++ clashes effects)) (sym (none_with (effect.Del a) (λ d. refl) effects))
  compatible_clashes (effect.Num how a x ∷ effects) changed =
      compatible_step (record { how = how; fluent = ground_text s.params (names p os) a; by = x }) (flat_map (numeric_effect_by s.params (names p os)) effects)
      ∙ ap₂ (λ (s t : Bool). s && t) (later how a x changed.0 effects changed.1) (compatible_clashes effects changed.1)
      ∙ sym (list_all-append (are_apart p s.params (names p os)) (flat_map (clash (effect.Num how a x)) effects) (clashes effects))

  -- a binding is ready where its reads have first values and its changes are apart
  pub ready_at_first : is_ready_at_first p s (names p os) ≡ is_ready s (names p os) (initial_world p)
  unfolding is_ready numeric_effects
  ready_at_first =
      sym (ap₂ (λ (s t : Bool). s && t)
      (all_in_action s.params (names p os) (initial_world p) s refl ∙ all_agree (has_value s.params (names p os) (initial_world p)) (is_set p s.params (names p os)) (action_reads s)
      (values_there (action_reads s) each_in_action))
      (compatible_clashes s.effects (changed_fluents p readable formed s stands)))
