-- Typed lists and declarations that a text spells are readable.
use Rattle.std.proofs.Common.{◌≡◌, ℕ, ◌≤◌, Bool, true, false, ◌&&◌, inl, inr, List, [], ◌∷◌, ◌++◌, codes, length, All, Option, Some, None, refl, sym, ap, subst, ◌∙◌, arith}
use Rattle.std.specs.Prelude.{bytes_eq, ◌||◌}
use Rattle.std.specs.List.{list_all}
use Rattle.std.proofs.lemmas.Bool.{and_from, and_parts, cases_Bool, cond-false, cond-true}
use Rattle.std.proofs.lemmas.Option.{same_Some}
use Rattle.std.proofs.lemmas.List.Concat.{flat_map-append}
use Rattle.std.proofs.lemmas.List.Elements.{All-cons, All-nil}
use Rattle.std.proofs.lemmas.List.Folds.{list_all-append}
use Rattle.num_ends.specs.Names.{is_name}
use Rattle.num_ends.specs.Decimal.{Decimal}
use Rattle.sexp_text.specs.declared.trees.Tree.{Tree}
use Rattle.pddl_terms.specs.declared.names.Name.{Name}
use Rattle.pddl_terms.specs.declared.names.Atom.{Atom}
use Rattle.pddl_terms.specs.declared.names.Typed.{Typed}
use Rattle.pddl_terms.specs.declared.names.Sig.{Sig}
use Rattle.pddl_terms.specs.declared.conditions.Cond.{Cond}
use Rattle.pddl_terms.specs.declared.conditions.Cond.TheVariants as condition
use Rattle.pddl_terms.specs.declared.actions.Effect.{Effect}
use Rattle.pddl_terms.specs.declared.actions.Schema.{Schema}
use Rattle.pddl_terms.specs.declared.limits.TheConstants.{MAX_HEIGHT, MAX_PARAMETERS}
use Rattle.pddl_terms.specs.Heights.{condition_height}
use Rattle.pddl_terms.specs.Readable.{IsReadableEffect, IsReadableSchema, IsReadableSignature, is_readable_atom, is_readable_condition, is_readable_item, is_readable_parameter, is_short_name, is_short_variable}
use Rattle.pddl_trees.specs.Words.{is_among, is_variable}
use Rattle.pddl_trees.specs.Leaves.{all_leaves, leaves_of}
use Rattle.pddl_trees.specs.TypedLists.{typed_as, untyped}
use Rattle.pddl_trees.specs.Declarations.{implied_types, names_of}
use Rattle.pddl_grammar.specs.Trees.{Each, IsListAt}
use Rattle.pddl_grammar.specs.Leaves.{IsFitLeaf}
use Rattle.pddl_grammar.specs.Lists.{FitsAs, SpellsTyped}
use Rattle.pddl_grammar.specs.Declarations.{SpellsFunctions, SpellsSig, SpellsTypes}
use Rattle.pddl_grammar.specs.Actions.{Alternates, HasActions, IsParameterList, SpellsEffectList, SpellsParameters, SpellsPrecondition, SpellsSchema, body_of}
use Rattle.pddl_grammar.specs.InitialState.{SpellsEntries}
use Rattle.pddl_grammar.proofs.Spelled.{nils}
use Rattle.pddl_grammar.proofs.SpelledConditions.{low_nothing}
use Rattle.pddl_grammar.proofs.ReadableNames.{atom_readable, begun_clean, first_clean, fit_name, fit_variable, fit_word, name_readable, parts_clean, rest_clean, symbol_readable}
use Rattle.pddl_grammar.proofs.ReadableConditions.{condition_low, condition_readable, effects_readable, nothing_readable}

-- ---- typed lists

-- a name that passes a test, with its type
abbrev is_readable_as : (List ℕ → Bool) → Typed → Bool
is_readable_as ok t = ok t.name.text && is_short_name t.kind.text

-- what fits as a leaf and for the list passes the test
abbrev IsPassed : (List ℕ → Bool) → (List ℕ → Bool) → Type 0
IsPassed fits ok = (w : List ℕ) → IsFitLeaf w → fits w ≡ true → ok w ≡ true

names_pass : (text : List ℕ) (fits ok : List ℕ → Bool) → IsPassed fits ok → (ts : List Tree) (names : List Name) → Each (FitsAs text fits) ts names → all_leaves text ts ≡ []
    → list_all (λ n. ok n.text) names ≡ true
names_pass text fits ok passed ts names Each.none clean = refl
names_pass text fits ok passed ts names (Each.next t n us ns here later) clean =
    and_from (ok n.text) (list_all (λ (m : Name). ok m.text) ns)
    (passed n.text (fit_word text t n.at n.text here.word (first_clean text t us clean)) here.fitting)
    (names_pass text fits ok passed us ns later (rest_clean text t us clean))

untyped_pass : (ok : List ℕ → Bool) (names : List Name) → list_all (λ n. ok n.text) names ≡ true → list_all (is_readable_as ok) (untyped names) ≡ true
untyped_pass ok [] h = refl
untyped_pass ok (n ∷ ns) h =
    let parts = and_parts (ok n.text) (list_all (λ (m : Name). ok m.text) ns) h in
    and_from _ (list_all (is_readable_as ok) (untyped ns)) (and_from (ok n.text) (is_short_name (codes "object")) parts.0 refl) (untyped_pass ok ns parts.1)

typed_pass : (ok : List ℕ → Bool) (kind : Name) (names : List Name) → is_short_name kind.text ≡ true → list_all (λ n. ok n.text) names ≡ true
    → list_all (is_readable_as ok) (typed_as kind names) ≡ true
typed_pass ok kind [] short h = refl
typed_pass ok kind (n ∷ ns) short h =
    let parts = and_parts (ok n.text) (list_all (λ (m : Name). ok m.text) ns) h in
    and_from _ (list_all (is_readable_as ok) (typed_as kind ns)) (and_from (ok n.text) (is_short_name kind.text) parts.0 short) (typed_pass ok kind ns short parts.1)

list_passes : (text : List ℕ) (fits ok : List ℕ → Bool) → IsPassed fits ok → (ts : List Tree) (typed : List Typed) → SpellsTyped text fits ts typed → all_leaves text ts ≡ []
    → list_all (is_readable_as ok) typed ≡ true
list_passes text fits ok passed ts typed (SpellsTyped.last us names each) clean = untyped_pass ok names (names_pass text fits ok passed us names each clean)
list_passes text fits ok passed ts typed (SpellsTyped.group t us n names dash at k kind rest items each a_dash type later) clean =
    let parts = nils (all_leaves text (t ∷ us)) (all_leaves text (dash ∷ k ∷ rest)) (sym (flat_map-append (leaves_of text) (t ∷ us) (dash ∷ k ∷ rest)) ∙ clean) in
    let behind = rest_clean text dash (k ∷ rest) parts.1 in
    let short = name_readable text k kind type (first_clean text k rest behind) in
    let front = typed_pass ok kind (n ∷ names) short (names_pass text fits ok passed (t ∷ us) (n ∷ names) each parts.0) in
    let back = list_passes text fits ok passed rest items later (rest_clean text k rest behind) in
    list_all-append (is_readable_as ok) (typed_as kind (n ∷ names)) items ∙ and_from _ _ front back

pub items_readable : (text : List ℕ) (ts : List Tree) (typed : List Typed) → SpellsTyped text is_name ts typed → all_leaves text ts ≡ [] → list_all is_readable_item typed ≡ true
items_readable text = list_passes text is_name is_short_name fit_name

pub parameters_readable : (text : List ℕ) (ts : List Tree) (typed : List Typed) → SpellsTyped text is_variable ts typed → all_leaves text ts ≡ []
    → list_all is_readable_parameter typed ≡ true
parameters_readable text = list_passes text is_variable is_short_variable fit_variable

-- ---- declarations

implied_readable : (known : List (List ℕ)) (ts : List Typed) → list_all is_readable_item ts ≡ true → list_all is_readable_item (implied_types known ts) ≡ true
implied_readable known [] h = refl
implied_readable known (t ∷ ts) h =
    let parts = and_parts (is_readable_item t) (list_all is_readable_item ts) h in
    let kind = (and_parts (is_short_name t.name.text) (is_short_name t.kind.text) parts.0).1 in
    elim (cases_Bool (is_among t.kind.text known || bytes_eq t.kind.text (codes "object"))) [
      | inl there ↦ ap (list_all is_readable_item) (cond-true _ _ _ there) ∙ implied_readable known ts parts.1
      | inr new ↦
          ap (list_all is_readable_item) (cond-false _ _ _ new)
          ∙ and_from _ _ (and_from (is_short_name t.kind.text) (is_short_name (codes "object")) kind refl) (implied_readable (t.kind.text ∷ known) ts parts.1)
    ]

pub types_readable : (text : List ℕ) (ts : List Tree) (types : List Typed) → SpellsTypes text ts types → all_leaves text ts ≡ [] → list_all is_readable_item types ≡ true
types_readable text ts types x clean =
    let declared = items_readable text ts x.declared x.list clean in
    ap (list_all is_readable_item) x.types_are
    ∙ list_all-append is_readable_item x.declared (implied_types (names_of x.declared) x.declared)
    ∙ and_from _ _ declared (implied_readable (names_of x.declared) x.declared declared)

signature_readable : (text : List ℕ) (t : Tree) (s : Sig) → SpellsSig text t s → leaves_of text t ≡ [] → IsReadableSignature s
signature_readable text t s x clean =
    let parts = parts_clean text t x.at (x.symbol ∷ x.variables) x.list clean in
    record {
      name = symbol_readable text x.symbol s.name x.name (first_clean text x.symbol x.variables parts);
      params = parameters_readable text x.variables s.params x.params (rest_clean text x.symbol x.variables parts);
      few_params = x.few;
    }

pub predicates_readable : (text : List ℕ) (ts : List Tree) (sigs : List Sig) → Each (SpellsSig text) ts sigs → all_leaves text ts ≡ [] → All IsReadableSignature sigs
predicates_readable text ts sigs Each.none clean = All-nil IsReadableSignature
predicates_readable text ts sigs (Each.next t s us ss here later) clean =
    All-cons IsReadableSignature s ss (signature_readable text t s here (first_clean text t us clean)) (predicates_readable text us ss later (rest_clean text t us clean))

pub functions_readable : (text : List ℕ) (ts : List Tree) (sigs : List Sig) → SpellsFunctions text ts sigs → all_leaves text ts ≡ [] → All IsReadableSignature sigs
functions_readable text ts sigs SpellsFunctions.none clean = All-nil IsReadableSignature
functions_readable text ts sigs (SpellsFunctions.plain t us s ss here later) clean =
    All-cons IsReadableSignature s ss (signature_readable text t s here (first_clean text t us clean)) (functions_readable text us ss later (rest_clean text t us clean))
functions_readable text ts sigs (SpellsFunctions.numeric t dash k at kind_at us s ss here a_dash type later) clean =
    let behind = rest_clean text k us (rest_clean text dash (k ∷ us) (rest_clean text t (dash ∷ k ∷ us) clean)) in
    All-cons IsReadableSignature s ss (signature_readable text t s here (first_clean text t (dash ∷ k ∷ us) clean)) (functions_readable text us ss later behind)

-- ---- actions

-- the body behind a keyword has no faulty leaves
bodies_clean : (text : List ℕ) (ts : List Tree) (ps : List (List ℕ × Tree)) → Alternates text ts ps → all_leaves text ts ≡ [] → (word : List ℕ) (t : Tree) → body_of word ps ≡ Some t
    → leaves_of text t ≡ []
bodies_clean text ts ps Alternates.none clean word t is = absurd (cc is)
bodies_clean text ts ps (Alternates.next k b at w us qs x later) clean word t is =
    let behind = rest_clean text k (b ∷ us) clean in
    elim (cases_Bool (bytes_eq w word)) [
      | inl same ↦ subst (λ (u : Tree). leaves_of text u ≡ []) (same_Some b t (sym (cond-true _ _ _ same) ∙ is)) (first_clean text b us behind)
      | inr other ↦ bodies_clean text us qs later (rest_clean text b us behind) word t (sym (cond-false _ _ _ other) ∙ is)
    ]

params_readable : (text : List ℕ) (o : Option Tree) (params : List Typed) → ((t : Tree) → o ≡ Some t → leaves_of text t ≡ []) → SpellsParameters text o params
    → (list_all is_readable_parameter params ≡ true) × (length params ≤ MAX_PARAMETERS)
params_readable text None params clean x =
    let none = ap length x in
    (ap (list_all is_readable_parameter) x, omega arith)
params_readable text (Some t) params clean x = (parameters_readable text x.parts params x.typed (parts_clean text t x.at x.parts x.list (clean t refl)), x.few)

precondition_readable : (text : List ℕ) (o : Option Tree) (c : Cond) → ((t : Tree) → o ≡ Some t → leaves_of text t ≡ []) → SpellsPrecondition text o c
    → (is_readable_condition c ≡ true) × (condition_height c ≤ MAX_HEIGHT)
precondition_readable text None c clean x = (ap is_readable_condition x ∙ nothing_readable, subst (λ (d : Cond). condition_height d ≤ MAX_HEIGHT) (sym x) low_nothing)
precondition_readable text (Some t) c clean x = (condition_readable text t c x (clean t refl), condition_low text t c x)

effect_list_readable : (text : List ℕ) (o : Option Tree) (es : List Effect) → ((t : Tree) → o ≡ Some t → leaves_of text t ≡ []) → SpellsEffectList text o es → All IsReadableEffect es
effect_list_readable text None es clean x = subst (All IsReadableEffect) (sym x) (All-nil IsReadableEffect)
effect_list_readable text (Some t) es clean x = effects_readable text t es x (clean t refl)

schema_readable : (text : List ℕ) (t : Tree) (s : Schema) → SpellsSchema text t s → leaves_of text t ≡ [] → IsReadableSchema s
schema_readable text t s x clean =
    let parts = begun_clean text t x.at (codes ":action") (x.named ∷ x.clauses) x.list clean in
    let bodies = bodies_clean text x.clauses x.pairs x.alternate (rest_clean text x.named x.clauses parts) in
    let params = params_readable text (body_of (codes ":parameters") x.pairs) s.params (bodies (codes ":parameters")) x.params in
    let pre = precondition_readable text (body_of (codes ":precondition") x.pairs) s.pre (bodies (codes ":precondition")) x.pre in
    record {
      name = name_readable text x.named s.name x.name (first_clean text x.named x.clauses parts);
      params = params.0;
      few_params = params.1;
      pre = pre.0;
      low_pre = pre.1;
      effects = effect_list_readable text (body_of (codes ":effect") x.pairs) s.effects (bodies (codes ":effect")) x.effects;
      few_effects = x.few;
    }

pub actions_readable : (text : List ℕ) (ss : List Tree) (schemas : List Schema) → HasActions text ss schemas → all_leaves text ss ≡ [] → All IsReadableSchema schemas
actions_readable text ss schemas HasActions.none clean = All-nil IsReadableSchema
actions_readable text ss schemas (HasActions.action t ts s rest here later) clean =
    All-cons IsReadableSchema s rest (schema_readable text t s here (first_clean text t ts clean)) (actions_readable text ts rest later (rest_clean text t ts clean))
actions_readable text ss schemas (HasActions.other t ts rest none later) clean = actions_readable text ts rest later (rest_clean text t ts clean)

-- ---- the initial state

pub entries_readable : (text : List ℕ) (ts : List Tree) (facts : List Atom) (values : List (Atom × Decimal)) → SpellsEntries text ts facts values → all_leaves text ts ≡ []
    → (list_all is_readable_atom facts ≡ true) × (list_all (λ (v : Atom × Decimal). is_readable_atom v.0) values ≡ true)
entries_readable text ts facts values SpellsEntries.none clean = (refl, refl)
entries_readable text ts facts values (SpellsEntries.fact t us a fs vs x later) clean =
    let rest = entries_readable text us fs vs later (rest_clean text t us clean) in
    (and_from (is_readable_atom a) (list_all is_readable_atom fs) (atom_readable text false t a x (first_clean text t us clean)) rest.0, rest.1)
entries_readable text ts facts values (SpellsEntries.value t us v fs vs x later) clean =
    let rest = entries_readable text us fs vs later (rest_clean text t us clean) in
    let parts = begun_clean text t x.at (codes "=") (x.fluent ∷ x.number ∷ []) x.list (first_clean text t us clean) in
    let fluent = atom_readable text false x.fluent v.0 x.atom (first_clean text x.fluent (x.number ∷ []) parts) in
    (rest.0, and_from (is_readable_atom v.0) (list_all (λ (w : Atom × Decimal). is_readable_atom w.0) vs) fluent rest.1)
entries_readable text ts facts values (SpellsEntries.negative t u at us a fs vs x inner later) clean = entries_readable text us fs vs later (rest_clean text t us clean)
