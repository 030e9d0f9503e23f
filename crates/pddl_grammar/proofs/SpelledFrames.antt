-- The frame of a domain or a problem: what trees say without a fault is what they spell.
use Rattle.std.proofs.Common.{◌≡◌, ℕ, Bool, true, inl, inr, List, [], ◌∷◌, Option, Some, None, refl, sym, ap, subst}
use Rattle.std.specs.Prelude.{codes, if◌then◌else◌}
use Rattle.std.specs.Option.{option_map_or}
use Rattle.std.proofs.lemmas.Bool.{cases_Bool}
use Rattle.sexp_text.specs.declared.trees.Tree.{Tree}
use Rattle.pddl_terms.specs.declared.names.Name.{Name}
use Rattle.pddl_trees.specs.Forms.{Form, Parsed, extra, misfit, shape_at}
use Rattle.pddl_trees.specs.Trees.{form_of, forms_of, parts_of, place_of}
use Rattle.pddl_trees.specs.Names.{is_word, name_of, only_name}
use Rattle.pddl_trees.specs.Frames.{definition_in, definition_of, definition_word_faults, frame_of}
use Rattle.pddl_trees.specs.Sections.{sections_of}
use Rattle.pddl_grammar.specs.Trees.{Begins, IsListAt}
use Rattle.pddl_grammar.specs.Sections.{IsFrame}
use Rattle.pddl_grammar.specs.Atoms.{SpellsName}
use Rattle.pddl_grammar.proofs.Spelled.{Says, begun_at, is_word_there, nils, no_more, parts_listed, parts_there, word_is}
use Rattle.pddl_grammar.proofs.SpelledNames.{name_fits, name_said}

-- ---- one name alone

pub record IsOnlyName (text : List ℕ) (ts : List Tree) (said : Parsed Name) : Type 0 where
  pub name : Name
  pub tree : Tree
  pub alone : ts ≡ tree ∷ []
  pub value : said.value ≡ Some name
  pub spelled : SpellsName text tree name

pub only_name_fits : (text : List ℕ) (at : ℕ) (ts : List Tree) → (only_name at (forms_of text ts)).faults ≡ [] → IsOnlyName text ts (only_name at (forms_of text ts))
only_name_fits text at [] e = absurd (cc e)
only_name_fits text at (t ∷ []) e =
    let found = name_fits text t (nils (name_of (form_of text t)).faults [] e).0 in
    record { name = found.0; tree = t; alone = refl; value = found.1; spelled = found.2 }
only_name_fits text at (t ∷ u ∷ us) e =
    let parts = nils (name_of (form_of text t)).faults (extra 1 (forms_of text (t ∷ u ∷ us))) e in
    absurd (cc parts.1)

pub only_name_said : (text : List ℕ) (at : ℕ) (t : Tree) (n : Name) → SpellsName text t n → Says (only_name at (forms_of text (t ∷ []))) n
only_name_said text at t n x =
    let said = name_said text t n x in
    (said.0, no_more (name_of (form_of text t)).faults [] said.1 refl)

-- ---- words that must stand

word_needed : (word : List ℕ) (f : Form) → (if is_word word f then [] else shape_at f.at ∷ []) ≡ [] → is_word word f ≡ true
word_needed word f e =
    elim (cases_Bool (is_word word f)) [
      | inl h ↦ h
      | inr n ↦ absurd (cc (rw n at e))
    ]

word_not_missed : (text : List ℕ) (t u : Tree) (at : ℕ) (w : List ℕ) (us : List Tree) (x : Begins text t at w us) → (if is_word w (form_of text x.first) then [] else shape_at (form_of text x.first).at ∷ []) ≡ []
word_not_missed text t u at w us x =
    ap (λ (b : Bool). if b then [] else shape_at (form_of text x.first).at ∷ []) (word_is text x.first x.first_at w x.word)

-- ---- (WORD NAME)

record IsDefinition (text : List ℕ) (word : List ℕ) (t : Tree) (said : Parsed Name) : Type 0 where
  name : Name
  named : Tree
  at : ℕ
  value : said.value ≡ Some name
  list : Begins text t at word (named ∷ [])
  spelled : SpellsName text named name

definition_parts_fit : (text : List ℕ) (word : List ℕ) (t : Tree) (at place : ℕ) (ts : List Tree) → IsListAt t at ts → (definition_of word place (forms_of text ts)).faults ≡ []
    → IsDefinition text word t (definition_of word place (forms_of text ts))
definition_parts_fit text word t at place [] listed e = absurd (cc e)
definition_parts_fit text word t at place (u ∷ us) listed e =
    let parts = nils (if is_word word (form_of text u) then [] else shape_at (form_of text u).at ∷ []) (only_name place (forms_of text us)).faults e in
    let found = only_name_fits text place us parts.1 in
    let begun = begun_at text t u at us word listed (is_word_there (form_of text u) word (word_needed word (form_of text u) parts.0)) in
    record { name = found.name; named = found.tree; at = at; value = found.value; list = subst (Begins text t at word) found.alone begun; spelled = found.spelled }

definition_fits : (text : List ℕ) (word : List ℕ) (t : Tree) → (definition_in text word t).faults ≡ [] → IsDefinition text word t (definition_in text word t)
definition_fits text word t e = by_parts (parts_of t) refl e
  where
    by_parts : (o : Option (List Tree)) → parts_of t ≡ o
        → (option_map_or (λ ts. definition_of word (place_of text t) (forms_of text ts)) o (misfit Name (place_of text t))).faults ≡ []
        → IsDefinition text word t (option_map_or (λ ts. definition_of word (place_of text t) (forms_of text ts)) o (misfit Name (place_of text t)))
    by_parts None is k = absurd (cc k)
    by_parts (Some ts) is k = definition_parts_fit text word t (form_of text t).at (place_of text t) ts (parts_there text t ts is) k

definition_said : (text : List ℕ) (word : List ℕ) (t named : Tree) (at : ℕ) (n : Name) → Begins text t at word (named ∷ []) → SpellsName text named n → Says (definition_in text word t) n
definition_said text word t named at n x spelled =
    let said = only_name_said text (place_of text t) named n spelled in
    let parts : Says (definition_of word (place_of text t) (forms_of text (x.first ∷ named ∷ []))) n =
    (said.0, no_more (if is_word word (form_of text x.first) then [] else shape_at (form_of text x.first).at ∷ []) (only_name (place_of text t) (forms_of text (named ∷ []))).faults (word_not_missed text t named at word (named ∷ []) x) said.1) in
    subst (λ (o : Option (List Tree)). Says (option_map_or (λ ts. definition_of word (place_of text t) (forms_of text ts)) o (misfit Name (place_of text t))) n)
    (sym (parts_listed t at (x.first ∷ named ∷ []) x.list)) parts

-- ---- (define (WORD NAME) section ..)

pub frame_fits : (text : List ℕ) (word : List ℕ) (t : Tree) (at place : ℕ) (ts : List Tree) → IsListAt t at ts → (frame_of text word place ts).faults ≡ []
    → (n : Name) × ((frame_of text word place ts).value ≡ Some n) × IsFrame text word t n (sections_of ts)
frame_fits text word t at place [] listed e = absurd (cc e)
frame_fits text word t at place (u ∷ []) listed e =
    let parts = nils (definition_word_faults (codes "define") (forms_of text (u ∷ []))) (shape_at place ∷ []) e in
    absurd (cc parts.1)
frame_fits text word t at place (u ∷ v ∷ vs) listed e =
    let parts = nils (if is_word (codes "define") (form_of text u) then [] else shape_at (form_of text u).at ∷ []) (definition_in text word v).faults e in
    let found = definition_fits text word v parts.1 in
    let begun = begun_at text t u at (v ∷ vs) (codes "define") listed (is_word_there (form_of text u) (codes "define") (word_needed (codes "define") (form_of text u) parts.0)) in
    (found.name, found.value, record { at = at; definition = v; definition_at = found.at; named = found.named; list = begun; what = found.list; name_is = found.spelled })

pub frame_said : (text : List ℕ) (word : List ℕ) (t : Tree) (n : Name) (ss : List Tree) (x : IsFrame text word t n ss) (place : ℕ)
    → Says (frame_of text word place (x.list.first ∷ x.definition ∷ ss)) n
frame_said text word t n ss x place =
    let said = definition_said text word x.definition x.named x.definition_at n x.what x.name_is in (
      said.0,
      no_more (if is_word (codes "define") (form_of text x.list.first) then [] else shape_at (form_of text x.list.first).at ∷ []) (definition_in text word x.definition).faults
          (word_not_missed text t x.definition x.at (codes "define") (x.definition ∷ ss) x.list) said.1,
    )

pub frame_parts : (text : List ℕ) (word : List ℕ) (t : Tree) (n : Name) (ss : List Tree) (x : IsFrame text word t n ss) → parts_of t ≡ Some (x.list.first ∷ x.definition ∷ ss)
frame_parts text word t n ss x = parts_listed t x.at (x.list.first ∷ x.definition ∷ ss) x.list.list
