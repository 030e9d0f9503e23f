-- In a well-formed pair the predicates and objects that an action's literals name are declared.
use Rattle.std.proofs.Common.{◌≡◌, ◌<◌, ◌&&◌, ◌+◌, inl, inr, ℕ, zero, suc, Bool, true, false, not, List, [], ◌∷◌, ◌++◌, length, Option, Some, None, refl, sym, ap, subst, ◌∙◌, arith, is_some, if◌then◌else◌}
use Rattle.std.specs.Prelude.{◌==◌, bytes_eq, flat_map, option_map}
use Rattle.std.specs.Option.{option_map_or, option_or}
use Rattle.std.specs.List.{list_all}
use Rattle.std.proofs.lemmas.Bool.{and_from, and_parts}
use Rattle.std.proofs.lemmas.List.Folds.{find-append, list_all-append}
use Rattle.pddl_terms.specs.declared.names.Arg.{Arg}
use Rattle.pddl_terms.specs.declared.names.Arg.TheVariants.{Var, Obj}
use Rattle.pddl_terms.specs.declared.names.Atom.{Atom}
use Rattle.pddl_terms.specs.declared.names.Sig.{Sig}
use Rattle.pddl_terms.specs.declared.names.Typed.{Typed}
use Rattle.pddl_terms.specs.declared.conditions.Cond.{Cond}
use Rattle.pddl_terms.specs.declared.conditions.Cond.TheVariants as condition
use Rattle.pddl_terms.specs.declared.actions.Schema.{Schema}
use Rattle.pddl_terms.specs.Readable.{IsReadable, is_readable_item, is_short_name}
use Rattle.pddl_terms.proofs.Induction.{Inductive, induct_condition}
use Rattle.name_table.specs.Tables.{place_in}
use Rattle.name_table.specs.TypedLists.{first_typed, names_of}
use Rattle.pddl_types.specs.declared.faults.Side.TheVariants as side
use Rattle.pddl_types.specs.declared.pairs.Pair.{Pair}
use Rattle.pddl_types.specs.Checks.{faults_of, schema_faults, schemas_faults}
use Rattle.pddl_types.specs.declared.faults.CheckKind.TheVariants.{UnknownName, Arity}
use Rattle.pddl_types.specs.Faults.{check_fault}
use Rattle.pddl_types.specs.Meanings.{first_sig, functions_first}
use Rattle.pddl_types.specs.Pairs.{heads_of, objects_of}
use Rattle.pddl_types.specs.UseFaults.{argument_faults, arguments_faults, condition_faults, declared_faults}
use Rattle.pddl_types.specs.WellFormed.{AreDistinct, Each, Stands, texts_of, WellFormed}
use Rattle.pddl_types.proofs.Empties.{empty_append, empty_flat, empty_three}
use Rattle.pddl_types.proofs.FaultlessAtoms.{argument_means, arguments_mean, IsNamed}
use Rattle.pddl_types.proofs.FaultlessWhole.{faultless}
use Rattle.pddl_types.proofs.Found.{names_append}
use Rattle.pddl_types.proofs.Layers.{and_layer, fact_layer, imply_layer, not_layer, or_layer, same_layer}
use Rattle.static_facts.specs.Atoms.{text_at}
use Rattle.static_facts.specs.Literals.{conjuncts, Literal}
use Rattle.static_facts.proofs.ChangedNames.{each_of}
use Rattle.static_facts.proofs.Conjuncts.{conjuncts_And, conjuncts_Cmp, conjuncts_Fact, conjuncts_Imply, conjuncts_Not, conjuncts_Or, conjuncts_Same}
use Rattle.static_facts.proofs.Keyed.{IsSpelled, spelled_name}
use Rattle.binder.proofs.Bounded.{is_known}
use Rattle.binder.proofs.Judged.{HasObjects, is_known_literal}
use Rattle.binder.proofs.Resolved.{bound_place}

each_stands : {A : Type 0} (P : A → Type 0) (x : A) (xs : List A) → Each P xs → Stands x xs → P x
each_stands P x [] h t = absurd t
each_stands P x (y ∷ xs) h t = elim t [ inl e ↦ subst P (sym e) h.0 | inr u ↦ each_stands P x xs h.1 u ]

-- ---- heads and arguments

head_place : (text : List ℕ) (sigs : List Sig) → is_some (place_in text (heads_of sigs)) ≡ is_some (first_sig text sigs)
head_place text [] = refl
head_place text (s ∷ sigs) = cases (bytes_eq text s.name.text) (place_in text (heads_of sigs)) (head_place text sigs)
  where
    cases : (test : Bool) (place : Option ℕ) → is_some place ≡ is_some (first_sig text sigs)
        → is_some (if test then Some 0 else option_map (λ j. j + 1) place) ≡ is_some (if test then Some s else first_sig text sigs)
    cases true place h = refl
    cases false None h = h
    cases false (Some i) h = h

module _ (p : Pair) (params : List Typed) where
  argument_known : (a : Arg) → IsNamed p side.Domain params a → is_known p a ≡ true
  argument_known (Var n) h = refl
  argument_known (Obj n) h =
      bound_place n.text (objects_of p)
      ∙ ap is_some (find-append (λ (t : Typed). bytes_eq n.text t.name.text) p.domain.constants p.problem.objects)
      ∙ ap (λ (x : Option Typed). is_some (option_or x (first_typed n.text p.problem.objects))) h.1

  arguments_known : (args : List Arg) → Each (IsNamed p side.Domain params) args → list_all (is_known p) args ≡ true
  arguments_known [] h = refl
  arguments_known (a ∷ args) h = and_from _ _ (argument_known a h.0) (arguments_known args h.1)

  -- ---- conditions without faults

  abbrev HasKnown : Cond → Type 0
  HasKnown c = condition_faults p side.Domain params c ≡ [] → (polarity : Bool) → list_all (is_known_literal p) (conjuncts c polarity) ≡ true

  abbrev knows : List Literal → Bool
  knows = list_all (is_known_literal p)

  all_known : (cs : List Cond) → Each HasKnown cs → Each (λ c. condition_faults p side.Domain params c ≡ []) cs → (polarity : Bool) → knows (flat_map (λ c. conjuncts c polarity) cs) ≡ true
  all_known [] h f polarity = refl
  all_known (c ∷ cs) h f polarity =
      list_all-append (is_known_literal p) (conjuncts c polarity) (flat_map (λ d. conjuncts d polarity) cs) ∙ and_from _ _ (h.0 f.0 polarity) (all_known cs h.1 f.1 polarity)

  where_true : (polarity : Bool) (ls : List Literal) → (polarity ≡ true → knows ls ≡ true) → knows (if polarity then ls else []) ≡ true
  where_true true ls h = h refl
  where_true false ls h = refl

  where_false : (polarity : Bool) (ls : List Literal) → (polarity ≡ false → knows ls ≡ true) → knows (if polarity then [] else ls) ≡ true
  where_false true ls h = refl
  where_false false ls h = h refl

  -- an atom without faults has a declared head, and its arguments are named
  faultless_atom : (a : Atom) (x : Option Sig)
      → option_map_or (declared_faults p side.Domain params a) x (check_fault side.Domain UnknownName a.head ∷ arguments_faults p side.Domain params [] a.args) ≡ []
      → (is_some x ≡ true) × Each (IsNamed p side.Domain params) a.args
  faultless_atom a None h = cc
  faultless_atom a (Some s) h = cases (length s.params == length a.args) h
    where
      cases : (test : Bool)
          → (if test then arguments_faults p side.Domain params s.params a.args else check_fault side.Domain Arity a.head ∷ arguments_faults p side.Domain params [] a.args) ≡ []
          → (is_some (Some s) ≡ true) × Each (IsNamed p side.Domain params) a.args
      cases true h = (refl, ((arguments_mean p side.Domain params s.params a.args).0 h).0)
      cases false h = cc

  unless_first : (test : Bool) (found : Option Sig) → is_some (if test then None else found) ≡ true → is_some found ≡ true
  unless_first true found h = cc
  unless_first false found h = h

  fact_known : (a : Atom) → HasKnown (condition.Fact a)
  fact_known a f polarity =
      let hidden = functions_first p.domain.predicates p.domain.functions && is_some (first_sig a.head.text p.domain.functions) in
      let parts = faultless_atom a (if hidden then None else first_sig a.head.text p.domain.predicates) (sym (fact_layer p side.Domain params a) ∙ f) in
      let head = head_place a.head.text p.domain.predicates ∙ unless_first hidden (first_sig a.head.text p.domain.predicates) parts.0 in
      ap knows (conjuncts_Fact a polarity) ∙ and_from _ _ (and_from _ _ head (arguments_known a.args parts.1)) refl

  same_known : (a b : Arg) → HasKnown (condition.Same a b)
  same_known a b f polarity =
      let parts = (empty_append (argument_faults p side.Domain params None a) (argument_faults p side.Domain params None b)).0 (sym (same_layer p side.Domain params a b) ∙ f) in
      let left = (argument_means p side.Domain params None a).0 parts.0 in
      let right = (argument_means p side.Domain params None b).0 parts.1 in
      ap knows (conjuncts_Same a b polarity) ∙ and_from _ _ (and_from _ _ (argument_known a left.0) (argument_known b right.0)) refl

  imply_known : (b c : Cond) → HasKnown b → HasKnown c → HasKnown (condition.Imply b c)
  imply_known b c h k f polarity =
      let parts = (empty_append (condition_faults p side.Domain params b) (condition_faults p side.Domain params c)).0 (sym (imply_layer p side.Domain params b c) ∙ f) in
      ap knows (conjuncts_Imply b c polarity)
      ∙ where_false polarity (conjuncts b true ++ conjuncts c false)
      (λ e. list_all-append (is_known_literal p) (conjuncts b true) (conjuncts c false) ∙ and_from _ _ (h parts.0 true) (k parts.1 false))

  steps : Inductive HasKnown
  steps = record {
    conjunction = λ cs h f polarity.
        let each = (empty_flat (condition_faults p side.Domain params) cs).0 (sym (and_layer p side.Domain params cs) ∙ f) in
        ap knows (conjuncts_And cs polarity) ∙ where_true polarity (flat_map (λ c. conjuncts c true) cs) (λ e. all_known cs (each_of HasKnown cs h) each true);
    disjunction = λ cs h f polarity.
        let each = (empty_flat (condition_faults p side.Domain params) cs).0 (sym (or_layer p side.Domain params cs) ∙ f) in
        ap knows (conjuncts_Or cs polarity) ∙ where_false polarity (flat_map (λ c. conjuncts c false) cs) (λ e. all_known cs (each_of HasKnown cs h) each false);
    negation = λ c h f polarity. ap knows (conjuncts_Not c polarity) ∙ h (sym (not_layer p side.Domain params c) ∙ f) (not polarity);
    implication = imply_known;
    fact = fact_known;
    equal = same_known;
    compare = λ r e g f polarity. ap knows (conjuncts_Cmp r e g polarity);
  }

  condition_known : (c : Cond) → HasKnown c
  condition_known = induct_condition HasKnown steps

-- ---- well-formed pairs

module _ (p : Pair) (well : WellFormed p) where
  none : faults_of p ≡ []
  none = (faultless p).1 well

  none_in_schemas : schemas_faults p ≡ []
  unfolding faults_of
  none_in_schemas = ((empty_three _ (schemas_faults p) _).0 none).1

  none_in_each : Each (λ s. schema_faults p s ≡ []) p.domain.schemas
  unfolding schemas_faults
  none_in_each = (empty_flat (schema_faults p) p.domain.schemas).0 ((empty_append _ (flat_map (schema_faults p) p.domain.schemas)).0 none_in_schemas).1

  none_in_condition : (s : Schema) → schema_faults p s ≡ [] → condition_faults p side.Domain s.params s.pre ≡ []
  unfolding schema_faults
  none_in_condition s h = ((empty_three _ (condition_faults p side.Domain s.params s.pre) _).0 h).1

  pub literals_known : (s : Schema) → Stands s p.domain.schemas → list_all (is_known_literal p) (conjuncts s.pre true) ≡ true
  literals_known s t = condition_known p s.params s.pre (none_in_condition s (each_stands (λ u. schema_faults p u ≡ []) s p.domain.schemas none_in_each t)) true

spelled_at : (xs : List Typed) → list_all is_readable_item xs ≡ true → (o : ℕ) → o < length (names_of xs) → IsSpelled (text_at (names_of xs) o)
spelled_at [] r o l = absurd (omega (arith, l))
spelled_at (x ∷ xs) r zero l =
    let parts = and_parts (is_readable_item x) (list_all is_readable_item xs) r in
    spelled_name x.name.text (and_parts (is_short_name x.name.text) (is_short_name x.kind.text) parts.0).0
spelled_at (x ∷ xs) r (suc o) l =
    let parts = and_parts (is_readable_item x) (list_all is_readable_item xs) r in
    spelled_at xs parts.1 o (omega (arith, l))

pub has_objects : (p : Pair) → WellFormed p → IsReadable p.domain p.problem → HasObjects p
has_objects p well readable =
    record {
      once = subst (λ ns. AreDistinct (texts_of ns)) (sym (names_append p.domain.constants p.problem.objects)) well.objects_once;
      spelled = spelled_at (objects_of p)
          (list_all-append is_readable_item p.domain.constants p.problem.objects ∙ and_from _ _ readable.domain.constants readable.problem.objects);
    }
