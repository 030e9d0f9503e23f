-- Sections: what trees say without a fault is what they spell.
use Rattle.std.proofs.Common.{◌≡◌, ℕ, ◌⊎◌, inl, inr, Bool, true, false, not, List, [], ◌∷◌, ◌++◌, Option, Some, None, refl, sym, ap, subst, ◌∙◌, drop, map}
use Rattle.std.specs.Prelude.{bytes_eq, codes, flat_map, filter_map}
use Rattle.std.specs.Option.{option_map_or}
use Rattle.std.specs.List.{filter, list_all}
use Rattle.std.proofs.lemmas.Bool.{cases_Bool, and_parts, and_from, or_cases, or_parts, or_from, or_left, or_right, not-true, not_from_false, false_from_ne_true}
use Rattle.std.proofs.lemmas.Option.{same_Some}
use Rattle.sexp_text.specs.declared.trees.Tree.{Tree}
use Rattle.pddl_terms.specs.declared.actions.Schema.{Schema}
use Rattle.pddl_trees.specs.declared.faults.Fault.{Fault}
use Rattle.pddl_trees.specs.Words.{is_among, is_key}
use Rattle.pddl_trees.specs.Forms.{Form, shape_at}
use Rattle.pddl_trees.specs.Trees.{form_of, forms_of, parts_of, place_of}
use Rattle.pddl_trees.specs.Names.{is_headed}
use Rattle.pddl_trees.specs.Declarations.{key_faults, known_keys, requirement_faults}
use Rattle.pddl_trees.specs.Sections.{content_named, content_of, repeated_sections, repeats_of, section_faults, section_front_faults, section_named, section_word_faults, word_and_repeat_faults}
use Rattle.pddl_trees.specs.Actions.{schema_in, actions_of, is_action}
use Rattle.pddl_trees.specs.Leaves.{all_leaves, leaf_faults, leaves_of}
use Rattle.pddl_grammar.specs.Sections.{AreSections, HasContent, HasSection, IsSection, is_distinct}
use Rattle.pddl_grammar.specs.Trees.{Begins, Each, IsListAt}
use Rattle.pddl_grammar.specs.Actions.{HasActions}
use Rattle.pddl_grammar.specs.Declarations.{IsKeyAt}
use Rattle.pddl_grammar.proofs.Spelled.{begun_at, begun_head, begun_headed, form_of_word, headed_begins, headed_word, nils, no_more, parts_listed, parts_there, same_word, word_at, word_itself, flat_map-map}
use Rattle.pddl_grammar.proofs.SpelledLeaves.{begun_leaves}
use Rattle.pddl_grammar.proofs.SpelledSchemas.{content_begun, schema_fits, schema_said}

-- ---- faults of all members

-- no member has a fault, wherever it stands
pub none_in : {A B : Type 0} (g : A → List B) (front : List A) (x : A) (rest : List A) → flat_map g (front ++ x ∷ rest) ≡ [] → g x ≡ []
none_in g [] x rest e = (nils (g x) (flat_map g rest) e).0
none_in g (y ∷ front) x rest e = none_in g front x rest (nils (g y) (flat_map g (front ++ x ∷ rest)) e).1

pub none_from : {A B : Type 0} (g : A → List B) (xs : List A) → ((front rest : List A) (x : A) → xs ≡ front ++ x ∷ rest → g x ≡ []) → flat_map g xs ≡ []
none_from g [] all = refl
none_from {A} g (x ∷ xs) all =
    no_more (g x) (flat_map g xs) (all [] xs x refl) (none_from g xs (λ front rest y e. all (x ∷ front) rest y (ap (λ (l : List A). x ∷ l) e)))

-- ---- words of sections

all_keys : (known : List (List ℕ)) → list_all is_key known ≡ true → (w : List ℕ) → is_among w known ≡ true → is_key w ≡ true
all_keys [] keys w h = absurd (cc h)
all_keys (v ∷ vs) keys w h =
    let parts = and_parts (is_key v) (list_all is_key vs) keys in
    elim (or_cases (bytes_eq v w) (is_among w vs) h) [
      | inl same ↦ ap is_key (sym (same_word v w same)) ∙ parts.0
      | inr later ↦ all_keys vs parts.1 w later
    ]

section_front_fits : (text : List ℕ) (known : List (List ℕ)) (s u : Tree) (at place : ℕ) (us : List Tree) → IsListAt s at (u ∷ us) → section_front_faults known place (forms_of text (u ∷ us)) ≡ []
    → (w : List ℕ) × IsSection text known s w
section_front_fits text known s u at place us listed e = by_word (form_of text u).word refl e
  where
    by_word : (o : Option (List ℕ)) → (form_of text u).word ≡ o → option_map_or (section_word_faults known (form_of text u).at) o (shape_at (form_of text u).at ∷ []) ≡ [] → (w : List ℕ) × IsSection text known s w
    by_word None is k = absurd (cc k)
    by_word (Some w) is k =
        elim (cases_Bool (is_key w)) [
          | inl key ↦ elim (cases_Bool (is_among w known)) [
            | inl there ↦ (w, record { at = at; parts = us; list = begun_at text s u at us w listed is; a_section = there })
            | inr other ↦ absurd (cc (rw (key, other) at k))
          ]
          | inr no_key ↦ absurd (cc (rw no_key at k))
        ]

section_fits : (text : List ℕ) (known : List (List ℕ)) (s : Tree) → section_faults text known s ≡ [] → (w : List ℕ) × IsSection text known s w
section_fits text known s e = by_parts (parts_of s) refl e
  where
    by_parts : (o : Option (List Tree)) → parts_of s ≡ o → option_map_or (λ ts. section_front_faults known (place_of text s) (forms_of text ts)) o (shape_at (place_of text s) ∷ []) ≡ [] → (w : List ℕ) × IsSection text known s w
    by_parts None is k = absurd (cc k)
    by_parts (Some []) is k = absurd (cc k)
    by_parts (Some (u ∷ us)) is k = section_front_fits text known s u (form_of text s).at (place_of text s) us (parts_there text s (u ∷ us) is) k

section_said : (text : List ℕ) (known : List (List ℕ)) (s : Tree) (w : List ℕ) → list_all is_key known ≡ true → IsSection text known s w → section_faults text known s ≡ []
section_said text known s w keys x =
    let there = x.a_section in
    let key = all_keys known keys w there in
    let first = form_of_word text x.list.first x.list.first_at w x.list.word in
    ap (λ (o : Option (List Tree)). option_map_or (λ ts. section_front_faults known (place_of text s) (forms_of text ts)) o (shape_at (place_of text s) ∷ [])) (parts_listed s x.at (x.list.first ∷ x.parts) x.list.list)
    ∙ ap (λ (f : Form). section_front_faults known (place_of text s) (f ∷ forms_of text x.parts)) first
    ∙ rw (key, there) refl

-- ---- repeated sections

abbrev is_once : List ℕ → Bool
is_once w = not (bytes_eq w (codes ":action"))

abbrev kept : List (List ℕ) → List (List ℕ)
kept words = filter (λ w. not (bytes_eq w (codes ":action"))) words

-- ---- all sections

each_section_fits : (text : List ℕ) (known : List (List ℕ)) (ss : List Tree) → flat_map (section_faults text known) ss ≡ [] → (words : List (List ℕ)) × Each (IsSection text known) ss words
each_section_fits text known [] e = ([], Each.none)
each_section_fits text known (s ∷ ss) e =
    let parts = nils (section_faults text known s) (flat_map (section_faults text known) ss) e in
    let here = section_fits text known s parts.0 in
    let rest = each_section_fits text known ss parts.1 in
    (here.0 ∷ rest.0, Each.next s here.0 ss rest.0 here.1 rest.1)

each_section_said : (text : List ℕ) (known : List (List ℕ)) (ss : List Tree) (words : List (List ℕ)) → list_all is_key known ≡ true → Each (IsSection text known) ss words
    → flat_map (section_faults text known) ss ≡ []
each_section_said text known ss words keys Each.none = refl
each_section_said text known ss words keys (Each.next s w us vs here rest) =
    no_more (section_faults text known s) (flat_map (section_faults text known) us) (section_said text known s w keys here) (each_section_said text known us vs keys rest)

-- ---- the section of a name

-- the first section of the name, which stands there
pub record Found (text : List ℕ) (word : List ℕ) (ss : List Tree) : Type 0 where
  pub front : List Tree
  pub rest : List Tree
  pub section : Tree
  pub parts : List Tree
  pub split : ss ≡ front ++ section ∷ rest
  pub list : Begins text section (form_of text section).at word parts
  pub named : section_named text word ss ≡ Some section

-- no section has the name
abbrev pub IsAbsent : List ℕ → List ℕ → List Tree → Type 0
IsAbsent text word ss = (s : Tree) (front rest parts : List Tree) (at : ℕ) → ss ≡ front ++ s ∷ rest → Begins text s at word parts → ⊥

pub find_section : (text : List ℕ) (word : List ℕ) (ss : List Tree) → Found text word ss ⊎ ((section_named text word ss ≡ None) × IsAbsent text word ss)
find_section text word [] = inr (refl, nowhere)
  where
    nowhere : IsAbsent text word []
    nowhere s [] rest parts at e begun = absurd (cc e)
    nowhere s (x ∷ front) rest parts at e begun = absurd (cc e)
find_section text word (s ∷ ss) =
    elim (cases_Bool (is_headed word (form_of text s))) [
      | inl headed ↦
          let found = headed_begins text s word (headed_word (form_of text s) word headed) in
          inl (record { front = []; rest = ss; section = s; parts = found.0; split = refl; list = found.1; named = rw headed refl })
      | inr other ↦ elim (find_section text word ss) [
        | inl later ↦ inl (record {
          front = s ∷ later.front;
          rest = later.rest;
          section = later.section;
          parts = later.parts;
          split = ap (λ (l : List Tree). s ∷ l) later.split;
          list = later.list;
          named = rw other later.named;
        })
        | inr none ↦ inr (rw other none.0, nowhere other none.1)
      ]
    ]
  where
    nowhere : is_headed word (form_of text s) ≡ false → IsAbsent text word ss → IsAbsent text word (s ∷ ss)
    nowhere other none u [] rest parts at e begun =
        let same : s ≡ u = cc in
        cc (sym other ∙ ap (λ (v : Tree). is_headed word (form_of text v)) same ∙ begun_headed text u at word parts begun)
    nowhere other none u (x ∷ front) rest parts at e begun =
        let tail : ss ≡ front ++ u ∷ rest = cc in
        none u front rest parts at tail begun

pub found_content : (text : List ℕ) (word : List ℕ) (ss : List Tree) (x : Found text word ss) → content_named text word ss ≡ x.parts
found_content text word ss x =
    ap (λ (o : Option Tree). option_map_or content_of o []) x.named ∙ content_begun text x.section (form_of text x.section).at word x.parts x.list

pub absent_content : (text : List ℕ) (word : List ℕ) (ss : List Tree) → section_named text word ss ≡ None → content_named text word ss ≡ []
absent_content text word ss none = ap (λ (o : Option Tree). option_map_or content_of o []) none

pub content_fits : (text : List ℕ) (word : List ℕ) (ss : List Tree) → HasContent text word ss (content_named text word ss)
content_fits text word ss =
    elim (find_section text word ss) [
      | inl found ↦
          subst (HasContent text word ss) (sym (found_content text word ss found))
          (subst (λ (l : List Tree). HasContent text word l found.parts) (sym found.split) (HasContent.there found.front found.rest found.section (form_of text found.section).at found.parts found.list))
      | inr none ↦ subst (HasContent text word ss) (sym (absent_content text word ss none.0)) (HasContent.absent ss none.1)
    ]

-- a word that stands once is found at its section
kept_there : (text : List ℕ) (known : List (List ℕ)) (front rest : List Tree) (s : Tree) (words : List (List ℕ)) (at : ℕ) (word : List ℕ) (parts : List Tree)
    → Each (IsSection text known) (front ++ s ∷ rest) words → Begins text s at word parts → is_once word ≡ true → is_among word (kept words) ≡ true
kept_there text known [] rest s words at word parts each begun once = by_each (s ∷ rest) refl words each
  where
    by_each : (ss : List Tree) → ss ≡ s ∷ rest → (ws : List (List ℕ)) → Each (IsSection text known) ss ws → is_among word (kept ws) ≡ true
    by_each ss e ws Each.none = absurd (cc e)
    by_each ss e ws (Each.next t w ts vs here others) =
        let tree : t ≡ s = cc in
        let same : w ≡ word = same_Some w word (sym (begun_head text t here.at w here.parts here.list) ∙ ap (λ (u : Tree). (form_of text u).head) tree ∙ begun_head text s at word parts begun) in
        let once' = ap is_once same ∙ once in
        rw once' (or_left (bytes_eq w word) (is_among word (kept vs)) (ap (λ (v : List ℕ). bytes_eq v word) same ∙ word_itself word))
kept_there text known (x ∷ front) rest s words at word parts each begun once = by_each (x ∷ front ++ s ∷ rest) refl words each (λ ws. kept_there text known front rest s ws at word parts)
  where
    by_each : (ss : List Tree) → ss ≡ x ∷ front ++ s ∷ rest → (ws : List (List ℕ)) → Each (IsSection text known) ss ws
        → ((vs : List (List ℕ)) → Each (IsSection text known) (front ++ s ∷ rest) vs → Begins text s at word parts → is_once word ≡ true → is_among word (kept vs) ≡ true) → is_among word (kept ws) ≡ true
    by_each ss e ws Each.none later = absurd (cc e)
    by_each ss e ws (Each.next t w ts vs here others) later =
        let tail : ts ≡ front ++ s ∷ rest = cc in
        let there = later vs (subst (λ (l : List Tree). Each (IsSection text known) l vs) tail others) begun once in
        elim (cases_Bool (is_once w)) [
          | inl kept_word ↦ rw kept_word (or_right (bytes_eq w word) (is_among word (kept vs)) there)
          | inr action ↦ rw action there
        ]

each_front : {A B : Type 0} (R : A → B → Type 0) (xs : List A) (ys : List B) → Each R xs ys → (x : A) (us : List A) → xs ≡ x ∷ us → (y : B) × (vs : List B) × (ys ≡ y ∷ vs) × R x y × Each R us vs
each_front R xs ys Each.none x us e = absurd (cc e)
each_front R xs ys (Each.next t w ts vs here others) x us e =
    let head : t ≡ x = cc in
    let tail : ts ≡ us = cc in
    (w, vs, refl, subst (λ a. R a w) head here, subst (λ l. Each R l vs) tail others)

kept_distinct : (w : List ℕ) (ws : List (List ℕ)) → is_distinct (kept (w ∷ ws)) ≡ true → (is_distinct (kept ws) ≡ true) × (is_once w ≡ true → is_among w (kept ws) ≡ false)
kept_distinct w ws h =
    elim (cases_Bool (is_once w)) [
      | inl once ↦
          let parts = and_parts (not (is_among w (kept ws))) (is_distinct (kept ws)) (rw once at h) in
          (parts.1, λ o. not-true (is_among w (kept ws)) parts.0)
      | inr action ↦ (rw action at h, λ o. absurd (cc (sym action ∙ o)))
    ]

-- a section whose name stands once is the one that is found
pub named_said : (text : List ℕ) (known : List (List ℕ)) (front rest : List Tree) (s : Tree) (words : List (List ℕ)) (at : ℕ) (word : List ℕ) (parts : List Tree)
    → Each (IsSection text known) (front ++ s ∷ rest) words → is_distinct (kept words) ≡ true → Begins text s at word parts → is_once word ≡ true → section_named text word (front ++ s ∷ rest) ≡ Some s
named_said text known [] rest s words at word parts each distinct begun once =
    let headed = begun_headed text s at word parts begun in
    rw headed refl
named_said text known (x ∷ front) rest s words at word parts each distinct begun once =
    let first = each_front (IsSection text known) (x ∷ front ++ s ∷ rest) words each x (front ++ s ∷ rest) refl in
    let w = first.0 in
    let ws = first.1 in
    let others = kept_distinct w ws (ap (λ (l : List (List ℕ)). is_distinct (kept l)) (sym first.2) ∙ distinct) in
    elim (cases_Bool (is_headed word (form_of text x))) [
      | inl headed ↦
          let same : w ≡ word = same_Some w word (sym (begun_head text x first.3.at w first.3.parts first.3.list) ∙ headed_word (form_of text x) word headed) in
          let there = kept_there text known front rest s ws at word parts first.4 begun once in
          let none = others.1 (ap is_once same ∙ once) in
          absurd (cc (sym none ∙ ap (λ (v : List ℕ). is_among v (kept ws)) same ∙ there))
      | inr other ↦ rw other (named_said text known front rest s ws at word parts first.4 others.0 begun once)
    ]

pub absent_said : (text : List ℕ) (word : List ℕ) (ss : List Tree) → IsAbsent text word ss → section_named text word ss ≡ None
absent_said text word ss absent =
    elim (find_section text word ss) [
      | inl found ↦ absurd (absent found.section found.front found.rest found.parts (form_of text found.section).at found.split found.list)
      | inr none ↦ none.0
    ]

pub content_said : (text : List ℕ) (known : List (List ℕ)) (word : List ℕ) (ss parts : List Tree) → HasContent text word ss parts → AreSections text known ss → is_once word ≡ true
    → content_named text word ss ≡ parts
content_said text known word ss parts (HasContent.absent us none) sections once = absent_content text word us (absent_said text word us none)
content_said text known word ss parts (HasContent.there front rest s at us begun) sections once =
    let named = named_said text known front rest s sections.words at word us sections.each sections.once begun once in
    ap (λ (o : Option Tree). option_map_or content_of o []) named ∙ content_begun text s at word us begun

pub section_there : (text : List ℕ) (known : List (List ℕ)) (word : List ℕ) (ss parts : List Tree) (x : HasSection text word ss parts) → AreSections text known ss → is_once word ≡ true
    → (section_named text word ss ≡ Some x.section) × (content_of x.section ≡ parts)
section_there text known word ss parts x sections once =
    let sections' = subst (AreSections text known) x.split sections in (
      ap (section_named text word) x.split ∙ named_said text known x.front x.rest x.section sections'.words x.at word parts sections'.each sections'.once x.list once,
      content_begun text x.section x.at word parts x.list,
    )

pub found_section : (text : List ℕ) (word : List ℕ) (ss : List Tree) (x : Found text word ss) → HasSection text word ss x.parts
found_section text word ss x = record { front = x.front; rest = x.rest; section = x.section; at = (form_of text x.section).at; split = x.split; list = x.list }

-- ---- leaves of a section

-- where the section has no leaf with a fault, nor has what stands in it
pub content_leaves : (text : List ℕ) (word : List ℕ) (ss : List Tree)
    → ((front rest : List Tree) (s : Tree) (at : ℕ) (parts : List Tree) → ss ≡ front ++ s ∷ rest → Begins text s at word parts → leaves_of text s ≡ [])
    → all_leaves text (content_named text word ss) ≡ []
content_leaves text word ss leaves =
    elim (find_section text word ss) [
      | inl found ↦
          let at = (form_of text found.section).at in
          let whole = leaves found.front found.rest found.section at found.parts found.split found.list in
          let parts = nils (leaf_faults found.list.first_at word) (all_leaves text found.parts) (sym (begun_leaves text found.section at word found.parts found.list) ∙ whole) in
          ap (all_leaves text) (found_content text word ss found) ∙ parts.1
      | inr none ↦ ap (all_leaves text) (absent_content text word ss none.0)
    ]

pub leaves_of_each : (text : List ℕ) (word : List ℕ) (ss : List Tree) → all_leaves text ss ≡ []
    → (front rest : List Tree) (s : Tree) (at : ℕ) (parts : List Tree) → ss ≡ front ++ s ∷ rest → Begins text s at word parts → leaves_of text s ≡ []
leaves_of_each text word ss e front rest s at parts split begun = none_in (leaves_of text) front s rest (sym (ap (all_leaves text) split) ∙ e)

-- ---- keys

key_fits : (text : List ℕ) (t : Tree) → requirement_faults (form_of text t) ≡ [] → IsKeyAt text t
key_fits text t e = by_word (form_of text t).word refl e
  where
    by_word : (o : Option (List ℕ)) → (form_of text t).word ≡ o → option_map_or (key_faults (form_of text t).at) o (shape_at (form_of text t).at ∷ []) ≡ [] → IsKeyAt text t
    by_word None is k = absurd (cc k)
    by_word (Some w) is k =
        elim (cases_Bool (is_key w)) [
          | inl key ↦ elim (cases_Bool (is_among w known_keys)) [
            | inl there ↦ record { at = (form_of text t).at; word = w; leaf = word_at text t w is; known = there }
            | inr other ↦ absurd (cc (rw (key, other) at k))
          ]
          | inr no_key ↦ absurd (cc (rw no_key at k))
        ]

key_said : (text : List ℕ) (t : Tree) → IsKeyAt text t → requirement_faults (form_of text t) ≡ []
key_said text t x =
    let there = x.known in
    let key = all_keys known_keys refl x.word there in
    ap requirement_faults (form_of_word text t x.at x.word x.leaf) ∙ rw (key, there) refl

pub keys_fit : (text : List ℕ) (ts : List Tree) → flat_map requirement_faults (forms_of text ts) ≡ [] → (front rest : List Tree) (k : Tree) → ts ≡ front ++ k ∷ rest → IsKeyAt text k
keys_fit text ts e front rest k split =
    let all = sym (flat_map-map requirement_faults (form_of text) ts) ∙ e in
    key_fits text k (none_in (λ (t : Tree). requirement_faults (form_of text t)) front k rest (sym (ap (flat_map (λ (t : Tree). requirement_faults (form_of text t))) split) ∙ all))

pub keys_said : (text : List ℕ) (ts : List Tree) → ((front rest : List Tree) (k : Tree) → ts ≡ front ++ k ∷ rest → IsKeyAt text k) → flat_map requirement_faults (forms_of text ts) ≡ []
keys_said text ts keys =
    flat_map-map requirement_faults (form_of text) ts ∙ none_from (λ (t : Tree). requirement_faults (form_of text t)) ts (λ front rest k split. key_said text k (keys front rest k split))

-- ---- actions

pub actions_fit : (text : List ℕ) (ss : List Tree) → flat_map (λ s. (schema_in text s).faults) (actions_of text ss) ≡ [] → all_leaves text ss ≡ []
    → HasActions text ss (filter_map (λ s. (schema_in text s).value) (actions_of text ss))
actions_fit text [] e leaves = HasActions.none
actions_fit text (s ∷ ss) e leaves =
    let fit = nils (leaves_of text s) (all_leaves text ss) leaves in
    elim (cases_Bool (is_action text s)) [
      | inl action ↦
          let found = headed_begins text s (codes ":action") (headed_word (form_of text s) (codes ":action") action) in
          let parts = nils (schema_in text s).faults (flat_map (λ s. (schema_in text s).faults) (actions_of text ss)) (rw action at e) in
          let here = schema_fits text s (form_of text s).at found.0 found.1 parts.0 fit.0 in
          let later = actions_fit text ss parts.1 fit.1 in
          let value = here.1 in
          rw (action, value) (HasActions.action s ss here.0 (filter_map (λ s. (schema_in text s).value) (actions_of text ss)) here.2 later)
      | inr other ↦
          let no_action : (at : ℕ) (parts : List Tree) → Begins text s at (codes ":action") parts → ⊥ = λ at parts begun. cc (sym other ∙ begun_headed text s at (codes ":action") parts begun) in
          rw other (HasActions.other s ss (filter_map (λ s. (schema_in text s).value) (actions_of text ss)) no_action (actions_fit text ss (rw other at e) fit.1))
    ]

pub actions_said : (text : List ℕ) (ss : List Tree) (schemas : List Schema) → HasActions text ss schemas
    → (filter_map (λ s. (schema_in text s).value) (actions_of text ss) ≡ schemas) × (flat_map (λ s. (schema_in text s).faults) (actions_of text ss) ≡ [])
actions_said text ss schemas HasActions.none = (refl, refl)
actions_said text ss schemas (HasActions.action t ts s more spelled rest) =
    let action = begun_headed text t spelled.at (codes ":action") (spelled.named ∷ spelled.clauses) spelled.list in
    let said = schema_said text t s spelled in
    let value = said.0 in
    let faults = said.1 in
    let later = actions_said text ts more rest in
    (rw (action, value) (ap (λ (l : List Schema). s ∷ l) later.0), rw (action, faults) later.1)
actions_said text ss schemas (HasActions.other t ts more none rest) =
    let later = actions_said text ts more rest in
    let other : is_action text t ≡ false = false_from_ne_true (is_action text t) (λ action.
    let found = headed_begins text t (codes ":action") (headed_word (form_of text t) (codes ":action") action) in
    none (form_of text t).at found.0 found.1) in
    (rw other later.0, rw other later.1)

-- ---- sections of one name

abbrev named_sections : List ℕ → List ℕ → List Tree → List Tree
named_sections text word ss = filter (λ s. is_headed word (form_of text s)) ss

-- each name but `:action` has at most one section
abbrev pub NoRepeats : List ℕ → List (List ℕ) → List Tree → Type 0
NoRepeats text known ss = (word : List ℕ) → is_among word known ≡ true → is_once word ≡ true → drop 1 (filter (λ s. is_headed word (form_of text s)) ss) ≡ []

section_head : (text : List ℕ) (known : List (List ℕ)) (s : Tree) (w word : List ℕ) → IsSection text known s w → is_headed word (form_of text s) ≡ bytes_eq w word
section_head text known s w word x = ap (λ (o : Option (List ℕ)). option_map_or (λ v. bytes_eq v word) o false) (begun_head text s x.at w x.parts x.list)

-- where no section has the name, it isn't among the words
none_named : (text : List ℕ) (known : List (List ℕ)) (ss : List Tree) (words : List (List ℕ)) (word : List ℕ) → Each (IsSection text known) ss words → named_sections text word ss ≡ [] → is_among word (kept words) ≡ false
none_named text known ss words word Each.none e = refl
none_named text known ss words word (Each.next s w us vs here rest) e =
    elim (cases_Bool (is_headed word (form_of text s))) [
      | inl headed ↦ absurd (cc (rw headed at e))
      | inr other ↦
          let apart = sym (section_head text known s w word here) ∙ other in
          let later = none_named text known us vs word rest (rw other at e) in
          elim (cases_Bool (is_once w)) [
            | inl once ↦ rw once (or_from (bytes_eq w word) (is_among word (kept vs)) apart later)
            | inr action ↦ rw action later
          ]
    ]

named_none : (text : List ℕ) (known : List (List ℕ)) (ss : List Tree) (words : List (List ℕ)) (word : List ℕ) → Each (IsSection text known) ss words → is_once word ≡ true → is_among word (kept words) ≡ false
    → named_sections text word ss ≡ []
named_none text known ss words word Each.none once e = refl
named_none text known ss words word (Each.next s w us vs here rest) once e =
    elim (cases_Bool (bytes_eq w word)) [
      | inl same ↦
          let kept_word = ap is_once (same_word w word same) ∙ once in
          let parts = or_parts (bytes_eq w word) (is_among word (kept vs)) (rw kept_word at e) in
          absurd (cc (sym same ∙ parts.0))
      | inr apart ↦
          let other = section_head text known s w word here ∙ apart in
          rw other (named_none text known us vs word rest once (elim (cases_Bool (is_once w)) [
            | inl kept_word ↦ (or_parts (bytes_eq w word) (is_among word (kept vs)) (rw kept_word at e)).1
            | inr action ↦ rw action at e
          ]))
    ]

no_repeats_later : (text : List ℕ) (known : List (List ℕ)) (s : Tree) (ss : List Tree) → NoRepeats text known (s ∷ ss) → NoRepeats text known ss
no_repeats_later text known s ss none word among once =
    elim (cases_Bool (is_headed word (form_of text s))) [
      | inl headed ↦ ap (drop 1) (rw headed at (none word among once))
      | inr other ↦ rw other at (none word among once)
    ]

pub distinct_from_no_repeats : (text : List ℕ) (known : List (List ℕ)) (ss : List Tree) (words : List (List ℕ)) → Each (IsSection text known) ss words → NoRepeats text known ss → is_distinct (kept words) ≡ true
distinct_from_no_repeats text known ss words Each.none none = refl
distinct_from_no_repeats text known ss words (Each.next s w us vs here rest) none =
    let later = distinct_from_no_repeats text known us vs rest (no_repeats_later text known s us none) in
    elim (cases_Bool (is_once w)) [
      | inl once ↦
          let headed = section_head text known s w w here ∙ word_itself w in
          let alone = none_named text known us vs w rest (rw headed at (none w here.a_section once)) in
          rw once (and_from (not (is_among w (kept vs))) (is_distinct (kept vs)) (not_from_false (is_among w (kept vs)) alone) later)
      | inr action ↦ rw action later
    ]

pub no_repeats_from_distinct : (text : List ℕ) (known : List (List ℕ)) (ss : List Tree) (words : List (List ℕ)) → Each (IsSection text known) ss words → is_distinct (kept words) ≡ true → NoRepeats text known ss
no_repeats_from_distinct text known ss words Each.none distinct word among once = refl
no_repeats_from_distinct text known ss words (Each.next s w us vs here rest) distinct word among once =
    let others = kept_distinct w vs distinct in
    elim (cases_Bool (bytes_eq w word)) [
      | inl same ↦
          let word_is = same_word w word same in
          let headed = section_head text known s w word here ∙ same in
          rw headed (named_none text known us vs word rest once (ap (λ (v : List ℕ). is_among v (kept vs)) (sym word_is) ∙ others.1 (ap is_once word_is ∙ once)))
      | inr apart ↦
          let other = section_head text known s w word here ∙ apart in
          rw other (no_repeats_from_distinct text known us vs rest others.0 word among once)
    ]

-- what is listed for each of some words is listed for one of them
for_each_word : (g : List ℕ → List Fault) (words : List (List ℕ)) → flat_map g (kept words) ≡ [] → (w : List ℕ) → is_among w words ≡ true → is_once w ≡ true → g w ≡ []
for_each_word g [] e w among once = absurd (cc among)
for_each_word g (v ∷ vs) e w among once =
    elim (cases_Bool (bytes_eq v w)) [
      | inl same ↦
          let word = same_word v w same in
          let kept_word = ap is_once word ∙ once in
          sym (ap g word) ∙ (nils (g v) (flat_map g (kept vs)) (rw kept_word at e)).0
      | inr other ↦
          let later : is_among w vs ≡ true = rw other at among in
          elim (cases_Bool (is_once v)) [
            | inl kept_word ↦ for_each_word g vs (nils (g v) (flat_map g (kept vs)) (rw kept_word at e)).1 w later once
            | inr action ↦ for_each_word g vs (rw action at e) w later once
          ]
    ]

each_word_has_none : (g : List ℕ → List Fault) (words : List (List ℕ)) → ((w : List ℕ) → is_among w words ≡ true → is_once w ≡ true → g w ≡ []) → flat_map g (kept words) ≡ []
each_word_has_none g [] all = refl
each_word_has_none g (v ∷ vs) all =
    let later = each_word_has_none g vs (λ w among. all w (or_right (bytes_eq v w) (is_among w vs) among)) in
    elim (cases_Bool (is_once v)) [
      | inl once ↦ rw once (no_more (g v) (flat_map g (kept vs)) (all v (or_left (bytes_eq v v) (is_among v vs) (word_itself v)) once) later)
      | inr action ↦ rw action later
    ]

no_members : (text : List ℕ) (ss : List Tree) → map (λ s. shape_at (place_of text s)) ss ≡ [] → ss ≡ []
no_members text [] e = refl
no_members text (s ∷ ss) e = absurd (cc e)

-- ---- all sections

pub sections_fit : (text : List ℕ) (known : List (List ℕ)) (ss : List Tree) → word_and_repeat_faults text known ss ≡ [] → AreSections text known ss
sections_fit text known ss e =
    let parts = nils (flat_map (section_faults text known) ss) (repeated_sections text known ss) e in
    let found = each_section_fits text known ss parts.0 in
    let none = λ (w : List ℕ) (among : is_among w known ≡ true) (once : is_once w ≡ true). no_members text (drop 1 (named_sections text w ss)) (for_each_word (repeats_of text ss) known parts.1 w among once) in
    record { words = found.0; each = found.1; once = distinct_from_no_repeats text known ss found.0 found.1 none }

pub sections_said : (text : List ℕ) (known : List (List ℕ)) (ss : List Tree) → list_all is_key known ≡ true → AreSections text known ss → word_and_repeat_faults text known ss ≡ []
sections_said text known ss keys x =
    let none = no_repeats_from_distinct text known ss x.words x.each x.once in
    no_more (flat_map (section_faults text known) ss) (repeated_sections text known ss) (each_section_said text known ss x.words keys x.each)
    (each_word_has_none (repeats_of text ss) known (λ w among once. ap (map (λ s. shape_at (place_of text s))) (none w among once)))
