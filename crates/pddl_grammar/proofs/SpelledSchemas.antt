-- Actions: what trees say without a fault is what they spell.
use Rattle.std.proofs.Common.{◌≡◌, ℕ, ◌≤◌, Bool, true, false, ◌||◌, not, inl, inr, List, [], ◌∷◌, ◌++◌, map, take, drop, length, Option, Some, None, refl, sym, ap, ap₂, subst, ◌∙◌, length-drop, arith}
use Rattle.std.specs.Prelude.{bytes_eq, codes, filter_map, is_some, if◌then◌else◌}
use Rattle.std.specs.Option.{option_map_or}
use Rattle.std.specs.List.{list_all}
use Rattle.std.proofs.lemmas.Bool.{cases_Bool, and_parts, and_from, or_cases, or_parts, or_left, or_right, not-true, not_from_false}
use Rattle.std.proofs.lemmas.Option.{same_Some}
use Rattle.std.proofs.lemmas.List.{length-map, drop_all}
use Rattle.sexp_text.specs.declared.trees.Tree.{Tree}
use Rattle.pddl_terms.specs.declared.names.Name.{Name}
use Rattle.pddl_terms.specs.declared.names.Typed.{Typed}
use Rattle.pddl_terms.specs.declared.conditions.Cond.{Cond}
use Rattle.pddl_terms.specs.declared.conditions.Cond.TheVariants as condition
use Rattle.pddl_terms.specs.declared.actions.Effect.{Effect}
use Rattle.pddl_terms.specs.declared.actions.Schema.{Schema}
use Rattle.pddl_terms.specs.declared.limits.What.TheVariants as what
use Rattle.pddl_trees.specs.declared.faults.Fault.{Fault}
use Rattle.pddl_trees.specs.declared.faults.Reason.TheVariants.{TooMany}
use Rattle.pddl_trees.specs.Faults.{fault_at}
use Rattle.pddl_trees.specs.Words.{is_among, is_variable}
use Rattle.pddl_trees.specs.Forms.{Form, Effects, Parsed, shape_at}
use Rattle.pddl_trees.specs.Trees.{form_of, forms_of, parts_of, place_of}
use Rattle.pddl_trees.specs.TypedLists.{Listed, parameters_kind, typed_list}
use Rattle.pddl_trees.specs.Actions.{Clause, Clauses, Params, Pre, Eff, clause_of, clause_word, clauses_from, effects_in, is_free, no_clauses, parameters_of, past_effects, precondition_of, schema_in, schema_of, schema_parts, with_clause, with_faults}
use Rattle.pddl_trees.specs.Sections.{content_of}
use Rattle.pddl_trees.specs.Names.{name_of}
use Rattle.pddl_trees.specs.Leaves.{all_leaves, leaf_faults, leaves_of}
use Rattle.pddl_grammar.specs.Actions.{Alternates, IsParameterList, SpellsEffectList, SpellsParameters, SpellsPrecondition, SpellsSchema, body_of, clause_words}
use Rattle.pddl_grammar.specs.Trees.{Begins, IsWordAt}
use Rattle.pddl_grammar.specs.Sections.{is_distinct}
use Rattle.pddl_grammar.proofs.Spelled.{Says, both_values, filter_map_values, form_of_word, nils, no_more, parts_listed, parts_there, same_word, word_at, word_itself}
use Rattle.pddl_grammar.proofs.SpelledLeaves.{begun_leaves, list_leaves}
use Rattle.pddl_grammar.proofs.SpelledNames.{name_fits, name_said}
use Rattle.pddl_grammar.proofs.SpelledLists.{typed_list_fits, typed_list_said}
use Rattle.pddl_grammar.proofs.SpelledConditions.{cond_fits, cond_said}
use Rattle.pddl_grammar.proofs.SpelledEffects.{found_effects, effects_fit, effects_said}

-- ---- keywords and what they have found

abbrev keyword : Clause → List ℕ
keyword Params = codes ":parameters"
keyword Pre = codes ":precondition"
keyword Eff = codes ":effect"

abbrev slot : Clause → Clauses → Option Tree
slot Params c = c.parameters
slot Pre c = c.precondition
slot Eff c = c.effect

abbrev first_of : {A : Type 0} → Option A → Option A → Option A
first_of None o = o
first_of (Some x) o = Some x

abbrev words_of : List (List ℕ × Tree) → List (List ℕ)
words_of pairs = map (λ (p : List ℕ × Tree). p.0) pairs

slot_same : (k : Clause) (b : Tree) (c : Clauses) → slot k (with_clause k b c) ≡ Some b
slot_same Params b c = refl
slot_same Pre b c = refl
slot_same Eff b c = refl

slot_other : (j k : Clause) (b : Tree) (c : Clauses) → bytes_eq (keyword k) (keyword j) ≡ false → slot j (with_clause k b c) ≡ slot j c
slot_other Params Params b c h = absurd cc
slot_other Params Pre b c h = refl
slot_other Params Eff b c h = refl
slot_other Pre Params b c h = refl
slot_other Pre Pre b c h = absurd cc
slot_other Pre Eff b c h = refl
slot_other Eff Params b c h = refl
slot_other Eff Pre b c h = refl
slot_other Eff Eff b c h = absurd cc

same_clause : (j k : Clause) → bytes_eq (keyword k) (keyword j) ≡ true → k ≡ j
same_clause Params Params h = refl
same_clause Params Pre h = absurd cc
same_clause Params Eff h = absurd cc
same_clause Pre Params h = absurd cc
same_clause Pre Pre h = refl
same_clause Pre Eff h = absurd cc
same_clause Eff Params h = absurd cc
same_clause Eff Pre h = absurd cc
same_clause Eff Eff h = refl

kept_faults : (k : Clause) (b : Tree) (c : Clauses) → (with_clause k b c).faults ≡ c.faults
kept_faults Params b c = refl
kept_faults Pre b c = refl
kept_faults Eff b c = refl

not_some : {A : Type 0} (o : Option A) → not (is_some o) ≡ true → o ≡ None
not_some None h = refl
not_some (Some x) h = absurd (cc h)

free_slot : (c : Clauses) (k : Clause) → is_free c k ≡ true → slot k c ≡ None
free_slot c Params h = not_some c.parameters h
free_slot c Pre h = not_some c.precondition h
free_slot c Eff h = not_some c.effect h

slot_free : (c : Clauses) (k : Clause) → slot k c ≡ None → is_free c k ≡ true
slot_free c Params h = ap (λ (o : Option Tree). not (is_some o)) h
slot_free c Pre h = ap (λ (o : Option Tree). not (is_some o)) h
slot_free c Eff h = ap (λ (o : Option Tree). not (is_some o)) h

known_keyword : (k : Clause) → is_among (keyword k) clause_words ≡ true
known_keyword Params = refl
known_keyword Pre = refl
known_keyword Eff = refl

keyword_clause : (k : Clause) → clause_word (keyword k) ≡ Some k
keyword_clause Params = refl
keyword_clause Pre = refl
keyword_clause Eff = refl

clause_keyword : (w : List ℕ) (k : Clause) → clause_word w ≡ Some k → w ≡ keyword k
clause_keyword w k e =
    elim (cases_Bool (bytes_eq w (codes ":parameters"))) [
      | inl parameters ↦ same_word w (codes ":parameters") parameters ∙ ap keyword (same_Some Params k (rw parameters at e))
      | inr no_parameters ↦ elim (cases_Bool (bytes_eq w (codes ":precondition"))) [
        | inl precondition ↦ same_word w (codes ":precondition") precondition ∙ ap keyword (same_Some Pre k (rw (no_parameters, precondition) at e))
        | inr no_precondition ↦ elim (cases_Bool (bytes_eq w (codes ":effect"))) [
          | inl effects ↦ same_word w (codes ":effect") effects ∙ ap keyword (same_Some Eff k (rw (no_parameters, no_precondition, effects) at e))
          | inr no_effect ↦ absurd (cc (rw (no_parameters, no_precondition, no_effect) at e))
        ]
      ]
    ]

among_keywords : (w : List ℕ) → is_among w clause_words ≡ true → (k : Clause) × (w ≡ keyword k)
among_keywords w h =
    elim (or_cases (bytes_eq (codes ":parameters") w) (bytes_eq (codes ":precondition") w || (bytes_eq (codes ":effect") w || false)) h) [
      | inl parameters ↦ (Params, sym (same_word (codes ":parameters") w parameters))
      | inr rest ↦ elim (or_cases (bytes_eq (codes ":precondition") w) (bytes_eq (codes ":effect") w || false) rest) [
        | inl precondition ↦ (Pre, sym (same_word (codes ":precondition") w precondition))
        | inr last ↦ elim (or_cases (bytes_eq (codes ":effect") w) false last) [
          | inl effects ↦ (Eff, sym (same_word (codes ":effect") w effects))
          | inr none ↦ absurd (cc none)
        ]
      ]
    ]

-- ---- single steps

module _ (text : List ℕ) (at : ℕ) (c : Clauses) where
  clauses_end : clauses_from text at None c [] ≡ c
  unfolding clauses_from
  clauses_end = refl

  clauses_open : (k : Clause) → clauses_from text at (Some k) c [] ≡ with_faults (shape_at at ∷ []) c
  unfolding clauses_from
  clauses_open k = refl

  clauses_body : (k : Clause) (t : Tree) (ts : List Tree) → clauses_from text at (Some k) c (t ∷ ts) ≡ clauses_from text at None (with_clause k t c) ts
  unfolding clauses_from
  clauses_body k t ts = refl

  clauses_key : (t : Tree) (ts : List Tree) → clauses_from text at None c (t ∷ ts) ≡ option_map_or (λ k. clauses_from text at (Some k) c ts) (clause_of c (form_of text t))
      (clauses_from text at None (with_faults (shape_at (place_of text t) ∷ []) c) ts)
  unfolding clauses_from
  clauses_key t ts = refl

-- faults stay
faults_kept : (text : List ℕ) (at : ℕ) (o : Option Clause) (c : Clauses) (ts : List Tree) → (clauses_from text at o c ts).faults ≡ [] → c.faults ≡ []
faults_kept text at None c [] e = sym (ap (λ (d : Clauses). d.faults) (clauses_end text at c)) ∙ e
faults_kept text at (Some k) c [] e =
    (nils c.faults (shape_at at ∷ []) (sym (ap (λ (d : Clauses). d.faults) (clauses_open text at c k)) ∙ e)).0
faults_kept text at (Some k) c (t ∷ ts) e =
    sym (kept_faults k t c) ∙ faults_kept text at None (with_clause k t c) ts (sym (ap (λ (d : Clauses). d.faults) (clauses_body text at c k t ts)) ∙ e)
faults_kept text at None c (t ∷ ts) e =
    by_clause (clause_of c (form_of text t)) (sym (ap (λ (d : Clauses). d.faults) (clauses_key text at c t ts)) ∙ e) (λ k. faults_kept text at (Some k) c ts) (faults_kept text at None (with_faults (shape_at (place_of text t) ∷ []) c) ts)
  where
    by_clause : (o : Option Clause)
        → (option_map_or (λ k. clauses_from text at (Some k) c ts) o (clauses_from text at None (with_faults (shape_at (place_of text t) ∷ []) c) ts)).faults ≡ []
        → ((k : Clause) → (clauses_from text at (Some k) c ts).faults ≡ [] → c.faults ≡ [])
        → ((clauses_from text at None (with_faults (shape_at (place_of text t) ∷ []) c) ts).faults ≡ [] → (with_faults (shape_at (place_of text t) ∷ []) c).faults ≡ [])
        → c.faults ≡ []
    by_clause None f keyed other = (nils c.faults (shape_at (place_of text t) ∷ []) (other f)).0
    by_clause (Some k) f keyed other = keyed k f

-- ---- keywords and bodies that are found without a fault are spelled

record ClausesFit (text : List ℕ) (c r : Clauses) (ts : List Tree) : Type 0 where
  pairs : List (List ℕ × Tree)
  alternate : Alternates text ts pairs
  keywords : list_all (λ (p : List ℕ × Tree). is_among p.0 clause_words) pairs ≡ true
  once : is_distinct (words_of pairs) ≡ true
  slots : (j : Clause) → slot j r ≡ first_of (body_of (keyword j) pairs) (slot j c)
  taken : (j : Clause) (x : Tree) → slot j c ≡ Some x → is_among (keyword j) (words_of pairs) ≡ false

no_body : (w : List ℕ) (pairs : List (List ℕ × Tree)) → is_among w (words_of pairs) ≡ false → body_of w pairs ≡ None
no_body w [] h = refl
no_body w (p ∷ ps) h =
    let parts = or_parts (bytes_eq p.0 w) (is_among w (words_of ps)) h in
    let other = parts.0 in
    rw other (no_body w ps parts.1)

one_more : (text : List ℕ) (c r : Clauses) (t b : Tree) (at : ℕ) (ts : List Tree) (k : Clause) → IsWordAt text t at (keyword k) → slot k c ≡ None → ClausesFit text (with_clause k b c) r ts
    → ClausesFit text c r (t ∷ b ∷ ts)
one_more text c r t b at ts k word free rest = record {
  pairs = (keyword k, b) ∷ rest.pairs;
  alternate = Alternates.next t b at (keyword k) ts rest.pairs word rest.alternate;
  keywords = and_from _ _ (known_keyword k) rest.keywords;
  once = and_from _ _ (not_from_false _ (rest.taken k b (slot_same k b c))) rest.once;
  slots = λ j. by_word j (bytes_eq (keyword k) (keyword j)) refl;
  taken = λ j x is. others j x is (bytes_eq (keyword k) (keyword j)) refl;
}
  where
    by_word : (j : Clause) (test : Bool) → bytes_eq (keyword k) (keyword j) ≡ test
        → slot j r ≡ first_of (if test then Some b else body_of (keyword j) rest.pairs) (slot j c)
    by_word j true same =
        let clause = same_clause j k same in
        let here : slot j (with_clause k b c) ≡ Some b = ap (λ (i : Clause). slot i (with_clause k b c)) (sym clause) ∙ slot_same k b c in
        rest.slots j ∙ ap₂ first_of (no_body (keyword j) rest.pairs (rest.taken j b here)) here
    by_word j false other = rest.slots j ∙ ap (first_of (body_of (keyword j) rest.pairs)) (slot_other j k b c other)

    others : (j : Clause) (x : Tree) → slot j c ≡ Some x → (test : Bool) → bytes_eq (keyword k) (keyword j) ≡ test → (test || is_among (keyword j) (words_of rest.pairs)) ≡ false
    others j x is true same = absurd (cc (sym free ∙ ap (λ (i : Clause). slot i c) (same_clause j k same) ∙ is))
    others j x is false other = rest.taken j x (slot_other j k b c other ∙ is)

clause_there : (c : Clauses) (f : Form) (k : Clause) → clause_of c f ≡ Some k → (f.word ≡ Some (keyword k)) × (is_free c k ≡ true)
clause_there c f k e = by_word f.word refl e
  where
    by_clause : (w : List ℕ) (o : Option Clause) → clause_word w ≡ o → option_map_or (λ i. if is_free c i then Some i else None) o None ≡ Some k → (w ≡ keyword k) × (is_free c k ≡ true)
    by_clause w None is g = absurd (cc g)
    by_clause w (Some i) is g =
        elim (cases_Bool (is_free c i)) [
          | inl free ↦
              let same = same_Some i k (rw free at g) in
              (clause_keyword w k (is ∙ ap Some same), ap (is_free c) (sym same) ∙ free)
          | inr other ↦ absurd (cc (rw other at g))
        ]

    by_word : (o : Option (List ℕ)) → f.word ≡ o → option_map_or (λ w. option_map_or (λ i. if is_free c i then Some i else None) (clause_word w) None) o None ≡ Some k
        → (f.word ≡ Some (keyword k)) × (is_free c k ≡ true)
    by_word None is g = absurd (cc g)
    by_word (Some w) is g =
        let found = by_clause w (clause_word w) refl g in
        (is ∙ ap Some found.0, found.1)

no_clause : (text : List ℕ) (at : ℕ) (c : Clauses) (t : Tree) (ts : List Tree) → clause_of c (form_of text t) ≡ None → (clauses_from text at None c (t ∷ ts)).faults ≡ [] → ⊥
no_clause text at c t ts none e =
    let step = clauses_key text at c t ts ∙ ap (λ (o : Option Clause). option_map_or (λ k. clauses_from text at (Some k) c ts) o (clauses_from text at None (with_faults (shape_at (place_of text t) ∷ []) c) ts)) none in
    let kept = faults_kept text at None (with_faults (shape_at (place_of text t) ∷ []) c) ts (sym (ap (λ (d : Clauses). d.faults) step) ∙ e) in
    let parts = nils c.faults (shape_at (place_of text t) ∷ []) kept in
    cc

some_clause : (text : List ℕ) (at : ℕ) (c : Clauses) (t : Tree) (ts : List Tree) (k : Clause) → clause_of c (form_of text t) ≡ Some k
    → clauses_from text at None c (t ∷ ts) ≡ clauses_from text at (Some k) c ts
some_clause text at c t ts k some =
    clauses_key text at c t ts ∙ ap (λ (o : Option Clause). option_map_or (λ i. clauses_from text at (Some i) c ts) o (clauses_from text at None (with_faults (shape_at (place_of text t) ∷ []) c) ts)) some

clauses_fit : (text : List ℕ) (at : ℕ) (ts : List Tree) (c : Clauses) → (clauses_from text at None c ts).faults ≡ [] → ClausesFit text c (clauses_from text at None c ts) ts
clauses_fit text at [] c e = record {
  pairs = [];
  alternate = Alternates.none;
  keywords = refl;
  once = refl;
  slots = λ j. ap (slot j) (clauses_end text at c);
  taken = λ j x is. refl;
}
clauses_fit text at (t ∷ []) c e = absurd (by_clause (clause_of c (form_of text t)) refl)
  where
    by_clause : (o : Option Clause) → clause_of c (form_of text t) ≡ o → ⊥
    by_clause None is = no_clause text at c t [] is e
    by_clause (Some k) is =
        let parts = nils c.faults (shape_at at ∷ []) (sym (ap (λ (d : Clauses). d.faults) (some_clause text at c t [] k is ∙ clauses_open text at c k)) ∙ e) in
        cc
clauses_fit text at (t ∷ b ∷ ts) c e = by_clause (clause_of c (form_of text t)) refl (λ k. clauses_fit text at ts (with_clause k b c))
  where
    by_clause : (o : Option Clause) → clause_of c (form_of text t) ≡ o
        → ((k : Clause) → (clauses_from text at None (with_clause k b c) ts).faults ≡ [] → ClausesFit text (with_clause k b c) (clauses_from text at None (with_clause k b c) ts) ts)
        → ClausesFit text c (clauses_from text at None c (t ∷ b ∷ ts)) (t ∷ b ∷ ts)
    by_clause None is later = absurd (no_clause text at c t (b ∷ ts) is e)
    by_clause (Some k) is later =
        let step = some_clause text at c t (b ∷ ts) k is ∙ clauses_body text at c k b ts in
        let found = clause_there c (form_of text t) k is in
        let rest = later k (sym (ap (λ (d : Clauses). d.faults) step) ∙ e) in
        subst (λ (r : Clauses). ClausesFit text c r (t ∷ b ∷ ts)) (sym step)
        (one_more text c (clauses_from text at None (with_clause k b c) ts) t b (form_of text t).at ts k (word_at text t (keyword k) found.0) (free_slot c k found.1) rest)

-- ---- spelled keywords and bodies are found without a fault

clauses_said : (text : List ℕ) (at : ℕ) (ts : List Tree) (pairs : List (List ℕ × Tree)) → Alternates text ts pairs → (c : Clauses)
    → list_all (λ (p : List ℕ × Tree). is_among p.0 clause_words) pairs ≡ true → is_distinct (words_of pairs) ≡ true
    → ((j : Clause) → is_among (keyword j) (words_of pairs) ≡ true → slot j c ≡ None)
    → ((clauses_from text at None c ts).faults ≡ c.faults) × ((j : Clause) → slot j (clauses_from text at None c ts) ≡ first_of (body_of (keyword j) pairs) (slot j c))
clauses_said text at ts pairs Alternates.none c keywords once free =
    (ap (λ (d : Clauses). d.faults) (clauses_end text at c), λ j. ap (slot j) (clauses_end text at c))
clauses_said text at ts pairs (Alternates.next t b place w us ps word rest) c keywords once free =
    let known = and_parts (is_among w clause_words) (list_all (λ (p : List ℕ × Tree). is_among p.0 clause_words) ps) keywords in
    let distinct = and_parts (not (is_among w (words_of ps))) (is_distinct (words_of ps)) once in
    let found = among_keywords w known.0 in
    let k = found.0 in
    let here = free k (or_left (bytes_eq w (keyword k)) (is_among (keyword k) (words_of ps)) (ap (λ (v : List ℕ). bytes_eq v (keyword k)) found.1 ∙ word_itself (keyword k))) in
    let is_there : clause_of c (form_of text t) ≡ Some k =
    ap (clause_of c) (form_of_word text t place w word)
    ∙ ap (λ (v : List ℕ). option_map_or (λ i. if is_free c i then Some i else None) (clause_word v) None) found.1
    ∙ ap (λ (o : Option Clause). option_map_or (λ i. if is_free c i then Some i else None) o None) (keyword_clause k)
    ∙ ap (λ (f : Bool). if f then Some k else None) (slot_free c k here) in
    let step = some_clause text at c t (b ∷ us) k is_there ∙ clauses_body text at c k b us in
    let still_free = λ (j : Clause) (among : is_among (keyword j) (words_of ps) ≡ true). freed c k b w (words_of ps) found.1 (not-true _ distinct.0) j among (free j (or_right (bytes_eq w (keyword j)) (is_among (keyword j) (words_of ps)) among)) in
    let later = clauses_said text at us ps rest (with_clause k b c) known.1 distinct.1 still_free in (
      ap (λ (d : Clauses). d.faults) step ∙ later.0 ∙ kept_faults k b c,
      λ j. ap (slot j) step ∙ later.1 j ∙ found_first c k b w ps found.1 here (not-true _ distinct.0) j,
    )
  where
    freed : (c : Clauses) (k : Clause) (b : Tree) (w : List ℕ) (ws : List (List ℕ)) → w ≡ keyword k → is_among w ws ≡ false → (j : Clause) → is_among (keyword j) ws ≡ true → slot j c ≡ None
        → slot j (with_clause k b c) ≡ None
    freed c k b w ws is none j among free =
        elim (cases_Bool (bytes_eq (keyword k) (keyword j))) [
          | inl same ↦
              let one = is ∙ same_word (keyword k) (keyword j) same in
              absurd (cc (sym none ∙ ap (λ (v : List ℕ). is_among v ws) one ∙ among))
          | inr other ↦ slot_other j k b c other ∙ free
        ]

    found_first : (c : Clauses) (k : Clause) (b : Tree) (w : List ℕ) (ps : List (List ℕ × Tree)) → w ≡ keyword k → slot k c ≡ None → is_among w (words_of ps) ≡ false → (j : Clause)
        → first_of (body_of (keyword j) ps) (slot j (with_clause k b c)) ≡ first_of (body_of (keyword j) ((w, b) ∷ ps)) (slot j c)
    found_first c k b w ps is free none j =
        elim (cases_Bool (bytes_eq w (keyword j))) [
          | inl same ↦
              let one = same_word w (keyword j) same in
              let clause = same_clause j k (ap (λ (v : List ℕ). bytes_eq v (keyword j)) (sym is) ∙ same) in
              let nothing = no_body (keyword j) ps (ap (λ (v : List ℕ). is_among v (words_of ps)) (sym one) ∙ none) in
              let there : slot j (with_clause k b c) ≡ Some b = ap (λ (i : Clause). slot i (with_clause k b c)) (sym clause) ∙ slot_same k b c in
              ap₂ first_of nothing there ∙ ap (λ (test : Bool). first_of (if test then Some b else body_of (keyword j) ps) (slot j c)) (sym same)
          | inr other ↦
              let apart = ap (λ (v : List ℕ). bytes_eq v (keyword j)) (sym is) ∙ other in
              ap (first_of (body_of (keyword j) ps)) (slot_other j k b c apart) ∙ ap (λ (test : Bool). first_of (if test then Some b else body_of (keyword j) ps) (slot j c)) (sym other)
        ]

-- ---- parameters

parameters_fit : (text : List ℕ) (o : Option Tree) → (parameters_of text o).faults ≡ [] → ((b : Tree) → o ≡ Some b → leaves_of text b ≡ []) → SpellsParameters text o (parameters_of text o).items
parameters_fit text None e leaves = refl
parameters_fit text (Some t) e leaves = by_parts (parts_of t) refl e
  where
    by_parts : (o : Option (List Tree)) → parts_of t ≡ o
        → (option_map_or (λ ts. typed_list parameters_kind (place_of text t) (forms_of text ts)) o (record { items = []; faults = shape_at (place_of text t) ∷ [] })).faults ≡ []
        → IsParameterList text t (option_map_or (λ ts. typed_list parameters_kind (place_of text t) (forms_of text ts)) o (record { items = []; faults = shape_at (place_of text t) ∷ [] })).items
    by_parts None is k = absurd (cc k)
    by_parts (Some ts) is k =
        let listed = parts_there text t ts is in
        let found = typed_list_fits text is_variable (Some (what.Parameters, 8)) (place_of text t) ts k (sym (list_leaves text t (place_of text t) ts listed) ∙ leaves t refl) in
        record { at = place_of text t; parts = ts; list = listed; typed = found.0; few = found.1 }

parameters_said : (text : List ℕ) (o : Option Tree) (params : List Typed) → SpellsParameters text o params → parameters_of text o ≡ record { items = params; faults = [] }
parameters_said text None params x = ap (λ (l : List Typed). record { items = l; faults = [] }) (sym x)
parameters_said text (Some t) params x =
    ap (λ (o : Option (List Tree)). option_map_or (λ ts. typed_list parameters_kind (place_of text t) (forms_of text ts)) o (record { items = []; faults = shape_at (place_of text t) ∷ [] })) (parts_listed t x.at x.parts x.list)
    ∙ typed_list_said text is_variable (Some (what.Parameters, 8)) (place_of text t) refl x.parts params x.typed x.few

-- ---- preconditions

precondition_fits : (text : List ℕ) (o : Option Tree) → (precondition_of text o).faults ≡ [] → ((b : Tree) → o ≡ Some b → leaves_of text b ≡ [])
    → (c : Cond) × ((precondition_of text o).value ≡ Some c) × SpellsPrecondition text o c
precondition_fits text None e leaves = (condition.And [], refl, refl)
precondition_fits text (Some t) e leaves = cond_fits text t e (leaves t refl)

precondition_said : (text : List ℕ) (o : Option Tree) (c : Cond) → SpellsPrecondition text o c → Says (precondition_of text o) c
precondition_said text None c x = (ap Some (sym x), refl)
precondition_said text (Some t) c x = cond_said text t c x

-- ---- effects

few_found : (n : ℕ) (found : List (ℕ × Option Effect)) → map (λ (e : ℕ × Option Effect). fault_at e.0 (TooMany what.Effects)) (take 1 (drop n found)) ≡ [] → length found ≤ n
few_found n found e =
    let past = length-drop n found in
    let none : length (drop n found) ≡ 0 = none_left (drop n found) e in
    omega arith
  where
    none_left : (l : List (ℕ × Option Effect)) → map (λ (e : ℕ × Option Effect). fault_at e.0 (TooMany what.Effects)) (take 1 l) ≡ [] → length l ≡ 0
    none_left [] k = refl
    none_left (x ∷ xs) k = absurd (cc k)

none_past_few : (n : ℕ) (found : List (ℕ × Option Effect)) → length found ≤ n → map (λ (e : ℕ × Option Effect). fault_at e.0 (TooMany what.Effects)) (take 1 (drop n found)) ≡ []
none_past_few n found h = ap (λ (l : List (ℕ × Option Effect)). map (λ (e : ℕ × Option Effect). fault_at e.0 (TooMany what.Effects)) (take 1 l)) (drop_all n found h)

found_long : (e : Effects) (es : List Effect) → found_effects e ≡ map Some es → length e.found ≡ length es
found_long e es is =
    let one : length (found_effects e) ≡ length e.found = length-map e.found (λ (f : ℕ × Option Effect). f.1) in
    let other : length (map Some es) ≡ length es = length-map es Some in
    sym one ∙ ap length is ∙ other

effects_list_fits : (text : List ℕ) (o : Option Tree) → (effects_in text o).faults ≡ [] → ((b : Tree) → o ≡ Some b → leaves_of text b ≡ [])
    → SpellsEffectList text o (effects_in text o).items × (length (effects_in text o).items ≤ 256)
effects_list_fits text None e leaves = (refl, omega arith)
effects_list_fits text (Some t) e leaves =
    let said = (form_of text t).effects in
    let parts = nils said.faults (past_effects said.found) e in
    let found = effects_fit text t parts.0 (leaves t refl) in
    let items : filter_map (λ (f : ℕ × Option Effect). f.1) said.found ≡ found.0 = filter_map_values (λ (f : ℕ × Option Effect). f.1) said.found found.0 found.1 in
    let few = few_found 256 said.found parts.1 in
    let long = found_long said found.0 found.1 in
    let short : length found.0 ≤ 256 = omega arith in
    (subst (SpellsEffectList text (Some t)) (sym items) found.2, subst (λ (l : List Effect). length l ≤ 256) (sym items) short)

effects_list_said : (text : List ℕ) (o : Option Tree) (es : List Effect) → SpellsEffectList text o es → length es ≤ 256 → effects_in text o ≡ record { items = es; faults = [] }
effects_list_said text None es x few = ap (λ (l : List Effect). record { items = l; faults = [] }) (sym x)
effects_list_said text (Some t) es x few =
    let found = effects_said text t es x in
    let said = (form_of text t).effects in
    let long = found_long said es found.0 in
    let short : length said.found ≤ 256 = omega arith in
    ap₂ (λ (items : List Effect) (faults : List Fault). record { items = items; faults = faults })
    (filter_map_values (λ (f : ℕ × Option Effect). f.1) said.found es found.0)
    (no_more said.faults (past_effects said.found) found.1 (none_past_few 256 said.found short))

-- ---- actions

pub content_begun : (text : List ℕ) (t : Tree) (at : ℕ) (w : List ℕ) (ts : List Tree) → Begins text t at w ts → content_of t ≡ ts
content_begun text t at w ts x = ap (λ (o : Option (List Tree)). option_map_or (λ us. drop 1 us) o []) (parts_listed t at (x.first ∷ ts) x.list)

body_leaves : (text : List ℕ) (ts : List Tree) (pairs : List (List ℕ × Tree)) → Alternates text ts pairs → all_leaves text ts ≡ [] → (w : List ℕ) (b : Tree) → body_of w pairs ≡ Some b → leaves_of text b ≡ []
body_leaves text ts pairs Alternates.none leaves w b is = absurd (cc is)
body_leaves text ts pairs (Alternates.next t c at v us ps word rest) leaves w b is =
    let outer = nils (leaves_of text t) (leaves_of text c ++ all_leaves text us) leaves in
    let inner = nils (leaves_of text c) (all_leaves text us) outer.1 in
    elim (cases_Bool (bytes_eq v w)) [
      | inl same ↦
          let body = same_Some c b (rw same at is) in
          sym (ap (leaves_of text) body) ∙ inner.0
      | inr other ↦ body_leaves text us ps rest inner.1 w b (rw other at is)
    ]

first_of_none : {A : Type 0} (o : Option A) → first_of o None ≡ o
first_of_none None = refl
first_of_none (Some x) = refl

schema_value : (name : Parsed Name) (params : Listed Typed) (pre : Parsed Cond) (effects : Listed Effect) (faults : List Fault) (n : Name) (c : Cond) → name.value ≡ Some n → pre.value ≡ Some c
    → (schema_of name params pre effects faults).value ≡ Some (record { name = n; params = params.items; pre = c; effects = effects.items })
schema_value name params pre effects faults n c e f =
    both_values (λ (m : Name) (d : Cond). record { name = m; params = params.items; pre = d; effects = effects.items }) name.value pre.value n c e f

schema_parts_fit : (text : List ℕ) (t : Tree) (at place : ℕ) (ts : List Tree) → Begins text t at (codes ":action") ts → (schema_parts text place ts).faults ≡ [] → all_leaves text ts ≡ []
    → (s : Schema) × ((schema_parts text place ts).value ≡ Some s) × SpellsSchema text t s
schema_parts_fit text t at place [] begun e leaves = absurd (cc e)
schema_parts_fit text t at place (u ∷ us) begun e leaves =
    let name = name_of (form_of text u) in
    let r = clauses_from text place None no_clauses us in
    let params = parameters_of text r.parameters in
    let pre = precondition_of text r.precondition in
    let effects = effects_in text r.effect in
    let a = nils (name.faults ++ r.faults ++ params.faults ++ pre.faults) effects.faults e in
    let b = nils (name.faults ++ r.faults ++ params.faults) pre.faults a.0 in
    let c = nils (name.faults ++ r.faults) params.faults b.0 in
    let d = nils name.faults r.faults c.0 in
    let fit = nils (leaves_of text u) (all_leaves text us) leaves in
    let named = name_fits text u d.0 in
    let found = clauses_fit text place us no_clauses d.1 in
    let first = found.slots Params ∙ first_of_none (body_of (codes ":parameters") found.pairs) in
    let second = found.slots Pre ∙ first_of_none (body_of (codes ":precondition") found.pairs) in
    let third = found.slots Eff ∙ first_of_none (body_of (codes ":effect") found.pairs) in
    let bodies = body_leaves text us found.pairs found.alternate fit.1 in
    let spelled_params = parameters_fit text r.parameters c.1 (λ x is. bodies (codes ":parameters") x (sym first ∙ is)) in
    let spelled_pre = precondition_fits text r.precondition b.1 (λ x is. bodies (codes ":precondition") x (sym second ∙ is)) in
    let spelled_effects = effects_list_fits text r.effect a.1 (λ x is. bodies (codes ":effect") x (sym third ∙ is)) in (
      record { name = named.0; params = params.items; pre = spelled_pre.0; effects = effects.items },
      schema_value name params pre effects r.faults named.0 spelled_pre.0 named.1 spelled_pre.1,
      record {
        at = at;
        named = u;
        clauses = us;
        list = begun;
        name = named.2;
        pairs = found.pairs;
        alternate = found.alternate;
        keywords = found.keywords;
        once = found.once;
        params = subst (λ (o : Option Tree). SpellsParameters text o params.items) first spelled_params;
        pre = subst (λ (o : Option Tree). SpellsPrecondition text o spelled_pre.0) second spelled_pre.2;
        effects = subst (λ (o : Option Tree). SpellsEffectList text o effects.items) third spelled_effects.0;
        few = spelled_effects.1;
      },
    )

-- an action that is said without a fault, and whose leaves have none, is spelled
pub schema_fits : (text : List ℕ) (t : Tree) (at : ℕ) (ts : List Tree) → Begins text t at (codes ":action") ts → (schema_in text t).faults ≡ [] → leaves_of text t ≡ []
    → (s : Schema) × ((schema_in text t).value ≡ Some s) × SpellsSchema text t s
schema_fits text t at ts begun e leaves =
    let content = content_begun text t at (codes ":action") ts begun in
    let same : schema_in text t ≡ schema_parts text (place_of text t) ts = ap (schema_parts text (place_of text t)) content in
    let inner = nils (leaf_faults begun.first_at (codes ":action")) (all_leaves text ts) (sym (begun_leaves text t at (codes ":action") ts begun) ∙ leaves) in
    let found = schema_parts_fit text t at (place_of text t) ts begun (sym (ap (λ (p : Parsed Schema). p.faults) same) ∙ e) inner.1 in
    (found.0, ap (λ (p : Parsed Schema). p.value) same ∙ found.1, found.2)

-- a spelled action is said without a fault
pub schema_said : (text : List ℕ) (t : Tree) (s : Schema) → SpellsSchema text t s → Says (schema_in text t) s
schema_said text t s x =
    let place = place_of text t in
    let content = content_begun text t x.at (codes ":action") (x.named ∷ x.clauses) x.list in
    let name = name_said text x.named s.name x.name in
    let r = clauses_from text place None no_clauses x.clauses in
    let found = clauses_said text place x.clauses x.pairs x.alternate no_clauses x.keywords x.once (λ j among. empty j) in
    let first = found.1 Params ∙ first_of_none (body_of (codes ":parameters") x.pairs) in
    let second = found.1 Pre ∙ first_of_none (body_of (codes ":precondition") x.pairs) in
    let third = found.1 Eff ∙ first_of_none (body_of (codes ":effect") x.pairs) in
    let params : parameters_of text r.parameters ≡ record { items = s.params; faults = [] } = ap (parameters_of text) first ∙ parameters_said text (body_of (codes ":parameters") x.pairs) s.params x.params in
    let pre = subst (λ (o : Option Tree). Says (precondition_of text o) s.pre) (sym second) (precondition_said text (body_of (codes ":precondition") x.pairs) s.pre x.pre) in
    let effects : effects_in text r.effect ≡ record { items = s.effects; faults = [] } = ap (effects_in text) third ∙ effects_list_said text (body_of (codes ":effect") x.pairs) s.effects x.effects x.few in
    let n = name_of (form_of text x.named) in
    let p = precondition_of text r.precondition in
    let parts : Says (schema_of n (record { items = s.params; faults = [] }) p (record { items = s.effects; faults = [] }) r.faults) s = (
      schema_value n (record { items = s.params; faults = [] }) p (record { items = s.effects; faults = [] }) r.faults s.name s.pre name.0 pre.0,
      no_more (n.faults ++ r.faults ++ [] ++ p.faults) [] (no_more (n.faults ++ r.faults ++ []) p.faults (no_more (n.faults ++ r.faults) [] (no_more n.faults r.faults name.1 found.0) refl) pre.1) refl,
    ) in
    subst (λ (us : List Tree). Says (schema_parts text place us) s) (sym content)
    (subst (λ (l : Listed Typed). Says (schema_of n l p (effects_in text r.effect) r.faults) s) (sym params)
    (subst (λ (l : Listed Effect). Says (schema_of n (record { items = s.params; faults = [] }) p l r.faults) s) (sym effects) parts))
  where
    empty : (j : Clause) → slot j no_clauses ≡ None
    empty Params = refl
    empty Pre = refl
    empty Eff = refl
