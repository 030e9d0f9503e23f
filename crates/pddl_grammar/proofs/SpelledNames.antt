-- Names, arguments and atoms: what trees say without a fault is what they spell.
use Rattle.std.proofs.Common.{◌≡◌, ℕ, Bool, true, false, ◌&&◌, inl, inr, List, [], ◌∷◌, map, Option, Some, None, refl, sym, ap, subst, ◌∙◌}
use Rattle.std.specs.Prelude.{flat_map, option_map, if◌then◌else◌}
use Rattle.std.specs.Option.{option_map_or}
use Rattle.std.proofs.lemmas.Bool.{cases_Bool, and_parts, and_from, eqb-true}
use Rattle.num_ends.specs.Names.{is_name}
use Rattle.sexp_text.specs.declared.trees.Tree.{Tree}
use Rattle.sexp_text.specs.declared.trees.Tree.TheVariants as trees
use Rattle.pddl_terms.specs.declared.names.Name.{Name}
use Rattle.pddl_terms.specs.declared.names.Arg.{Arg}
use Rattle.pddl_terms.specs.declared.names.Arg.TheVariants.{Var, Obj}
use Rattle.pddl_terms.specs.declared.names.Atom.{Atom}
use Rattle.pddl_trees.specs.Words.{is_symbol, is_variable}
use Rattle.pddl_trees.specs.Forms.{Parsed, Form, all_of, misfit, sound}
use Rattle.pddl_trees.specs.Trees.{form_of, forms_of}
use Rattle.pddl_trees.specs.Atoms.{argument, argument_word, atom_of, headed_atom}
use Rattle.pddl_trees.specs.Names.{named_at, name_of}
use Rattle.pddl_grammar.specs.Trees.{Each, IsWordAt, IsListAt}
use Rattle.pddl_grammar.specs.Atoms.{SpellsArg, SpellsAtom, SpellsName}
use Rattle.pddl_grammar.proofs.Spelled.{Says, all_of_somes, each_fits, each_said, map-map, flat_map-map, form_of_word, form_of_list, word_at, Shape, shape_of, list_itself}
use Rattle.pddl_trees.proofs.Trees.{form_of-Leaf, form_of-List}

-- ---- words

pub variable_no_name : (w : List ℕ) → is_variable w ≡ true → is_name w ≡ false
variable_no_name [] h = refl
variable_no_name (b ∷ bs) h =
    let mark = eqb-true b 63 (and_parts _ _ h).0 in
    ap (λ (c : ℕ). is_name (c ∷ bs)) mark

-- ---- arguments

argument_word_fits : (text : List ℕ) (variables : Bool) (t : Tree) (at : ℕ) (w : List ℕ) → IsWordAt text t at w → (argument_word variables at w).faults ≡ []
    → (a : Arg) × ((argument_word variables at w).value ≡ Some a) × SpellsArg text variables t a
argument_word_fits text variables t at w x e =
    elim (cases_Bool (is_name w)) [
      | inl n ↦ (Obj (record { text = w; at = at }), rw n refl, record { word = x; a_name = n })
      | inr n ↦ elim (cases_Bool (variables && is_variable w)) [
        | inl v ↦
            let parts = and_parts variables (is_variable w) v in
            (Var (record { text = w; at = at }), rw (n, v) refl, (parts.0, record { word = x; a_variable = parts.1 }))
        | inr v ↦ absurd (cc (rw (n, v) at e))
      ]
    ]

-- a leaf is an argument by its word, and a list is none
argument_fits_by : (text : List ℕ) (variables : Bool) (t : Tree) (o : Option (List ℕ)) → (form_of text t).word ≡ o
    → (option_map_or (argument_word variables (form_of text t).at) o (misfit Arg (form_of text t).at)).faults ≡ []
    → (a : Arg) × ((option_map_or (argument_word variables (form_of text t).at) o (misfit Arg (form_of text t).at)).value ≡ Some a) × SpellsArg text variables t a
argument_fits_by text variables t None is e = absurd cc
argument_fits_by text variables t (Some w) is e = argument_word_fits text variables t (form_of text t).at w (word_at text t w is) e

pub argument_fits : (text : List ℕ) (variables : Bool) (t : Tree) → (argument variables (form_of text t)).faults ≡ []
    → (a : Arg) × ((argument variables (form_of text t)).value ≡ Some a) × SpellsArg text variables t a
argument_fits text variables t e = argument_fits_by text variables t (form_of text t).word refl e

pub argument_said : (text : List ℕ) (variables : Bool) (t : Tree) (a : Arg) → SpellsArg text variables t a → Says (argument variables (form_of text t)) a
argument_said text variables t (Var name) x =
    let form = form_of_word text t name.at name.text x.1.word in
    let allowed = and_from variables (is_variable name.text) x.0 x.1.a_variable in
    let none = variable_no_name name.text x.1.a_variable in
    subst (λ (f : Form). Says (argument variables f) (Var name)) (sym form) (rw (none, allowed) refl, rw (none, allowed) refl)
argument_said text variables t (Obj name) x =
    let form = form_of_word text t name.at name.text x.word in
    let named = x.a_name in
    subst (λ (f : Form). Says (argument variables f) (Obj name)) (sym form) (rw named refl, rw named refl)

-- ---- atoms

pub arguments_fit : (text : List ℕ) (variables : Bool) (ts : List Tree) → flat_map (λ (a : Parsed Arg). a.faults) (map (argument variables) (forms_of text ts)) ≡ []
    → (args : List Arg) × (all_of (map (λ (a : Parsed Arg). a.value) (map (argument variables) (forms_of text ts))) ≡ Some args) × Each (SpellsArg text variables) ts args
arguments_fit text variables ts e =
    let faults = flat_map-map (λ (a : Parsed Arg). a.faults) (argument variables) (forms_of text ts) ∙ flat_map-map (λ f. (argument variables f).faults) (form_of text) ts in
    let values = map-map (λ (a : Parsed Arg). a.value) (argument variables) (forms_of text ts) ∙ map-map (λ f. (argument variables f).value) (form_of text) ts in
    let found = each_fits (λ t. argument variables (form_of text t)) (SpellsArg text variables) (argument_fits text variables) ts (sym faults ∙ e) in
    (found.0, ap all_of (values ∙ found.1) ∙ all_of_somes found.0, found.2)

pub arguments_said : (text : List ℕ) (variables : Bool) (ts : List Tree) (args : List Arg) → Each (SpellsArg text variables) ts args
    → (all_of (map (λ (a : Parsed Arg). a.value) (map (argument variables) (forms_of text ts))) ≡ Some args)
    × (flat_map (λ (a : Parsed Arg). a.faults) (map (argument variables) (forms_of text ts)) ≡ [])
arguments_said text variables ts args x =
    let faults = flat_map-map (λ (a : Parsed Arg). a.faults) (argument variables) (forms_of text ts) ∙ flat_map-map (λ f. (argument variables f).faults) (form_of text) ts in
    let values = map-map (λ (a : Parsed Arg). a.value) (argument variables) (forms_of text ts) ∙ map-map (λ f. (argument variables f).value) (form_of text) ts in
    let said = each_said (λ t. argument variables (form_of text t)) (SpellsArg text variables) (argument_said text variables) ts args x in
    (ap all_of (values ∙ said.0) ∙ all_of_somes args, faults ∙ said.1)

headed_fits : (text : List ℕ) (variables : Bool) (t u : Tree) (at place : ℕ) (w : List ℕ) (us : List Tree) → IsListAt t at (u ∷ us) → IsWordAt text u place w
    → (headed_atom variables place w (forms_of text us)).faults ≡ []
    → (a : Atom) × ((headed_atom variables place w (forms_of text us)).value ≡ Some a) × SpellsAtom text variables t a
headed_fits text variables t u at place w us list word e =
    elim (cases_Bool (is_symbol w)) [
      | inl s ↦
          let name : Name = record { text = w; at = place } in
          let found = arguments_fit text variables us (rw s at e) in
          let value : option_map (λ (xs : List Arg). record { head = name; args = xs }) (all_of (map (λ (a : Parsed Arg). a.value) (map (argument variables) (forms_of text us)))) ≡ Some (record { head = name; args = found.0 }) =
          ap (option_map (λ (xs : List Arg). record { head = name; args = xs })) found.1 in (
            record { head = name; args = found.0 },
            rw s value,
            record { at = at; symbol = u; arguments = us; list = list; head = record { word = word; a_symbol = s }; args = found.2 },
          )
      | inr n ↦ absurd (cc (rw n at e))
    ]

atom_fits_by : (text : List ℕ) (variables : Bool) (t u : Tree) (at : ℕ) (us : List Tree) → IsListAt t at (u ∷ us) → (o : Option (List ℕ)) → (form_of text u).word ≡ o
    → (option_map_or (λ w. headed_atom variables (form_of text u).at w (forms_of text us)) o (misfit Atom (form_of text u).at)).faults ≡ []
    → (a : Atom) × ((option_map_or (λ w. headed_atom variables (form_of text u).at w (forms_of text us)) o (misfit Atom (form_of text u).at)).value ≡ Some a) × SpellsAtom text variables t a
atom_fits_by text variables t u at us list None is e = absurd cc
atom_fits_by text variables t u at us list (Some w) is e = headed_fits text variables t u at (form_of text u).at w us list (word_at text u w is) e

-- the parts of a list that say an atom without a fault
pub atom_fits : (text : List ℕ) (variables : Bool) (t : Tree) (at : ℕ) (ts : List Tree) → IsListAt t at ts → (atom_of variables at (forms_of text ts)).faults ≡ []
    → (a : Atom) × ((atom_of variables at (forms_of text ts)).value ≡ Some a) × SpellsAtom text variables t a
atom_fits text variables t at [] list e = absurd cc
atom_fits text variables t at (u ∷ us) list e = atom_fits_by text variables t u at us list (form_of text u).word refl e

pub atom_said : (text : List ℕ) (variables : Bool) (t : Tree) (a : Atom) (x : SpellsAtom text variables t a) → Says (atom_of variables x.at (forms_of text (x.symbol ∷ x.arguments))) a
atom_said text variables t a x =
    let form = form_of_word text x.symbol a.head.at a.head.text x.head.word in
    let symbol = x.head.a_symbol in
    let said = arguments_said text variables x.arguments a.args x.args in
    let value : option_map (λ (xs : List Arg). record { head = a.head; args = xs }) (all_of (map (λ (a : Parsed Arg). a.value) (map (argument variables) (forms_of text x.arguments)))) ≡ Some a =
    ap (option_map (λ (xs : List Arg). record { head = a.head; args = xs })) said.0 in
    subst (λ (f : Form). Says (atom_of variables x.at (f ∷ forms_of text x.arguments)) a) (sym form) (rw symbol value, rw symbol said.1)

-- a tree that says an atom without a fault spells it
pub tree_atom_fits : (text : List ℕ) (t : Tree) → (form_of text t).atom.faults ≡ [] → (a : Atom) × ((form_of text t).atom.value ≡ Some a) × SpellsAtom text true t a
tree_atom_fits text t = by_shape t (shape_of t)
  where
    by_shape : (u : Tree) → Shape u → (form_of text u).atom.faults ≡ [] → (a : Atom) × ((form_of text u).atom.value ≡ Some a) × SpellsAtom text true u a
    by_shape u (Shape.a_leaf span) =
        subst (λ (f : Form). f.atom.faults ≡ [] → (a : Atom) × (f.atom.value ≡ Some a) × SpellsAtom text true (trees.Leaf span) a) (sym (form_of-Leaf text span)) (λ e. absurd (cc e))
    by_shape u (Shape.a_list span ts) =
        subst (λ (f : Form). f.atom.faults ≡ [] → (a : Atom) × (f.atom.value ≡ Some a) × SpellsAtom text true (trees.List span ts) a) (sym (form_of-List text span ts))
        (λ e. atom_fits text true (trees.List span ts) span.from ts (list_itself span ts) e)

pub tree_atom_said : (text : List ℕ) (t : Tree) (a : Atom) → SpellsAtom text true t a → Says (form_of text t).atom a
tree_atom_said text t a x =
    subst (λ (f : Form). Says f.atom a) (sym (form_of_list text t x.at (x.symbol ∷ x.arguments) x.list)) (atom_said text true t a x)

-- ---- names

-- a tree that says a name without a fault spells it
pub name_fits : (text : List ℕ) (t : Tree) → (name_of (form_of text t)).faults ≡ [] → (n : Name) × ((name_of (form_of text t)).value ≡ Some n) × SpellsName text t n
name_fits text t e = by_word (form_of text t).word refl e
  where
    by_word : (o : Option (List ℕ)) → (form_of text t).word ≡ o
        → (option_map_or (λ w. if is_name w then sound Name (named_at (form_of text t).at w) else misfit Name (form_of text t).at) o (misfit Name (form_of text t).at)).faults ≡ []
        → (n : Name) × ((option_map_or (λ w. if is_name w then sound Name (named_at (form_of text t).at w) else misfit Name (form_of text t).at) o (misfit Name (form_of text t).at)).value ≡ Some n) × SpellsName text t n
    by_word None is k = absurd (cc k)
    by_word (Some w) is k =
        elim (cases_Bool (is_name w)) [
          | inl n ↦ (named_at (form_of text t).at w, rw n refl, record { word = word_at text t w is; a_name = n })
          | inr n ↦ absurd (cc (rw n at k))
        ]

pub name_said : (text : List ℕ) (t : Tree) (n : Name) → SpellsName text t n → Says (name_of (form_of text t)) n
name_said text t n x =
    let named = x.a_name in
    subst (λ (f : Form). Says (name_of f) n) (sym (form_of_word text t n.at n.text x.word)) (rw named refl, rw named refl)
