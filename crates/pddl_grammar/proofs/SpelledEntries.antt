-- The initial state: what trees say without a fault is what they spell.
use Rattle.std.proofs.Common.{◌≡◌, ℕ, true, false, ◌&&◌, inl, inr, List, [], ◌∷◌, ◌++◌, map, take, drop, Option, Some, None, refl, sym, ap, ap₂, subst, ◌∙◌}
use Rattle.std.specs.Prelude.{bytes_eq, codes, flat_map, filter_map, if◌then◌else◌}
use Rattle.std.specs.Option.{option_map_or}
use Rattle.std.specs.List.{cons_option}
use Rattle.std.proofs.lemmas.Bool.{cases_Bool, and_right, false_from_ne_true, true≢false}
use Rattle.num_ends.specs.Decimal.{Decimal}
use Rattle.sexp_text.specs.declared.trees.Tree.{Tree}
use Rattle.pddl_terms.specs.declared.names.Arg.{Arg}
use Rattle.pddl_terms.specs.declared.names.Arg.TheVariants.{Var, Obj}
use Rattle.pddl_terms.specs.declared.names.Atom.{Atom}
use Rattle.pddl_trees.specs.Words.{is_number_word, is_symbol, number_in}
use Rattle.pddl_trees.specs.Forms.{Form, misfit, shape_at}
use Rattle.pddl_trees.specs.Atoms.{atom_of}
use Rattle.pddl_trees.specs.Trees.{form_of, forms_of, parts_of, place_of}
use Rattle.pddl_trees.specs.Initial.{Entry, begins_with_number, entry_fault, entry_of, entry_parts, fact_entry, ground_atom, headed_entry, is_number_leaf, negative_entry, number_leaf, value_entry}
use Rattle.pddl_trees.specs.Leaves.{all_leaves, leaves_of}
use Rattle.pddl_grammar.specs.Trees.{Begins, Each, IsListAt, IsWordAt}
use Rattle.pddl_grammar.specs.Leaves.{IsFitLeaf}
use Rattle.pddl_grammar.specs.Atoms.{SpellsArg, SpellsAtom}
use Rattle.pddl_grammar.specs.InitialState.{SpellsEntries, SpellsValue}
use Rattle.pddl_grammar.proofs.Spelled.{Says, begun_at, both_values, form_of_word, nils, no_more, parts_listed, parts_there, past_one, past_two, same_word, too_few, word_at}
use Rattle.pddl_grammar.proofs.SpelledLeaves.{list_leaves, word_leaves}
use Rattle.pddl_grammar.proofs.SpelledMarks.{leaf_is_fit}
use Rattle.pddl_grammar.proofs.SpelledNames.{atom_fits, atom_said}
use Rattle.pddl_grammar.proofs.SpelledWords.{number_no_name, other_word}

-- ---- ground atoms

ground_fits : (text : List ℕ) (t : Tree) → (ground_atom text t).faults ≡ [] → (a : Atom) × ((ground_atom text t).value ≡ Some a) × SpellsAtom text false t a
ground_fits text t e = by_parts (parts_of t) refl e
  where
    by_parts : (o : Option (List Tree)) → parts_of t ≡ o
        → (option_map_or (λ ts. atom_of false (place_of text t) (forms_of text ts)) o (misfit Atom (place_of text t))).faults ≡ []
        → (a : Atom) × ((option_map_or (λ ts. atom_of false (place_of text t) (forms_of text ts)) o (misfit Atom (place_of text t))).value ≡ Some a) × SpellsAtom text false t a
    by_parts None is k = absurd (cc k)
    by_parts (Some ts) is k = atom_fits text false t (form_of text t).at ts (parts_there text t ts is) k

ground_said : (text : List ℕ) (t : Tree) (a : Atom) → SpellsAtom text false t a → Says (ground_atom text t) a
ground_said text t a x =
    subst (λ (o : Option (List Tree)). Says (option_map_or (λ ts. atom_of false (place_of text t) (forms_of text ts)) o (misfit Atom (place_of text t))) a)
    (sym (parts_listed t x.at (x.symbol ∷ x.arguments) x.list)) (atom_said text false t a x)

-- ---- an entry

-- what a tree says as an entry, and spells
data EntryFits (text : List ℕ) (t : Tree) (e : Entry) : Type 0 where
  a_fact : (a : Atom) → e.fact ≡ Some a → e.value ≡ None → SpellsAtom text false t a → EntryFits text t e
  a_value : (v : Atom × Decimal) → e.fact ≡ None → e.value ≡ Some v → SpellsValue text t v → EntryFits text t e
  a_negative : (u : Tree) (at : ℕ) (a : Atom) → e.fact ≡ None → e.value ≡ None → Begins text t at (codes "not") (u ∷ []) → SpellsAtom text false u a → EntryFits text t e

fact_fits : (text : List ℕ) (t : Tree) → (ground_atom text t).faults ≡ [] → EntryFits text t (fact_entry (ground_atom text t))
fact_fits text t e =
    let found = ground_fits text t e in
    EntryFits.a_fact found.0 found.1 refl found.2

negative_fits : (text : List ℕ) (t : Tree) (at place : ℕ) (ts : List Tree) → Begins text t at (codes "not") ts → (negative_entry text place ts).faults ≡ [] → EntryFits text t (negative_entry text place ts)
negative_fits text t at place [] begun e = absurd (cc e)
negative_fits text t at place (u ∷ []) begun e =
    let a = nils ((ground_atom text u).faults ++ [] ++ []) [] e in
    let b = nils ((ground_atom text u).faults ++ []) [] a.0 in
    let found = ground_fits text u (nils (ground_atom text u).faults [] b.0).0 in
    EntryFits.a_negative u at found.0 refl refl begun found.2
negative_fits text t at place (u ∷ v ∷ us) begun e =
    absurd (past_one place (flat_map (λ t. (ground_atom text t).faults) (take 1 (u ∷ v ∷ us))) (form_of text u) (form_of text v) (forms_of text us) e)

-- a number without a fault is taken
number_taken : (text : List ℕ) (t : Tree) → (if is_number_leaf (form_of text t) then [] else shape_at (place_of text t) ∷ []) ≡ [] → leaves_of text t ≡ []
    → (w : List ℕ) × (d : Decimal) × IsWordAt text t (form_of text t).at w × (is_number_word w ≡ true) × (number_in w ≡ Some d) × (number_leaf (form_of text t) ≡ Some d)
number_taken text t e leaves = by_word (form_of text t).word refl e
  where
    by_fit : (w : List ℕ) → IsWordAt text t (form_of text t).at w → is_number_word w ≡ true → IsFitLeaf w → (d : Decimal) × (number_in w ≡ Some d)
    by_fit w x n (IsFitLeaf.a_number d m is) = (d, is)
    by_fit w x n (IsFitLeaf.a_word m few known) = absurd (cc (sym n ∙ m))

    by_word : (o : Option (List ℕ)) → (form_of text t).word ≡ o → (if option_map_or is_number_word o false then [] else shape_at (place_of text t) ∷ []) ≡ []
        → (w : List ℕ) × (d : Decimal) × IsWordAt text t (form_of text t).at w × (is_number_word w ≡ true) × (number_in w ≡ Some d) × (option_map_or number_in o None ≡ Some d)
    by_word None is k = absurd (cc k)
    by_word (Some w) is k =
        elim (cases_Bool (is_number_word w)) [
          | inl n ↦
              let x = word_at text t w is in
              let found = by_fit w x n (leaf_is_fit (form_of text t).at w (sym (word_leaves text t (form_of text t).at w x) ∙ leaves)) in
              (w, found.0, x, n, found.1, found.1)
          | inr other ↦ absurd (cc (rw other at k))
        ]

value_fits : (text : List ℕ) (t : Tree) (at place : ℕ) (ts : List Tree) → Begins text t at (codes "=") ts → all_leaves text ts ≡ [] → (value_entry text place ts).faults ≡ []
    → EntryFits text t (value_entry text place ts)
value_fits text t at place [] begun leaves e = absurd (cc e)
value_fits text t at place (u ∷ []) begun leaves e = absurd (too_few (((ground_atom text u).faults ++ []) ++ []) (shape_at place) e)
value_fits text t at place (u ∷ v ∷ []) begun leaves e =
    let number = if is_number_leaf (form_of text v) then [] else shape_at (place_of text v) ∷ [] in
    let a = nils (((ground_atom text u).faults ++ []) ++ (number ++ []) ++ []) [] e in
    let b = nils (((ground_atom text u).faults ++ []) ++ (number ++ [])) [] a.0 in
    let c = nils ((ground_atom text u).faults ++ []) (number ++ []) b.0 in
    let fit = nils (leaves_of text u) (leaves_of text v ++ []) leaves in
    let atom = ground_fits text u (nils (ground_atom text u).faults [] c.0).0 in
    let taken = number_taken text v (nils number [] c.1).0 (nils (leaves_of text v) [] fit.1).0 in
    EntryFits.a_value (atom.0, taken.1) refl (both_values (λ (x : Atom) (d : Decimal). (x, d)) (ground_atom text u).value (number_leaf (form_of text v)) atom.0 taken.1 atom.1 taken.5)
    (record { at = at; fluent = u; number = v; number_at = (form_of text v).at; word = taken.0; list = begun; atom = atom.2; leaf = taken.2; a_number = taken.3; number_is = taken.4 })
value_fits text t at place (u ∷ v ∷ w ∷ us) begun leaves e =
    absurd (past_two place (flat_map (λ t. (ground_atom text t).faults) (take 1 (u ∷ v ∷ w ∷ us)) ++ flat_map (λ t. if is_number_leaf (form_of text t) then [] else shape_at (place_of text t) ∷ []) (take 1 (drop 1 (u ∷ v ∷ w ∷ us))))
    (form_of text u) (form_of text v) (form_of text w) (forms_of text us) e)

headed_fits : (text : List ℕ) (t h : Tree) (at head_at : ℕ) (w : List ℕ) (ts : List Tree) → Begins text t at w ts → all_leaves text ts ≡ [] → (headed_entry text t head_at w ts).faults ≡ []
    → EntryFits text t (headed_entry text t head_at w ts)
headed_fits text t h at head_at w ts begun leaves e =
    elim (cases_Bool (bytes_eq w (codes "at") && begins_with_number (forms_of text ts))) [
      | inl timed ↦ absurd (cc (rw timed at e))
      | inr untimed ↦ elim (cases_Bool (bytes_eq w (codes "not"))) [
        | inl negation ↦
            rw (untimed, negation) (negative_fits text t at (place_of text t) ts (subst (λ (v : List ℕ). Begins text t at v ts) (same_word w (codes "not") negation) begun) (rw (untimed, negation) at e))
        | inr no_not ↦ elim (cases_Bool (bytes_eq w (codes "="))) [
          | inl equal ↦
              rw (untimed, no_not, equal) (value_fits text t at (place_of text t) ts (subst (λ (v : List ℕ). Begins text t at v ts) (same_word w (codes "=") equal) begun) leaves (rw (untimed, no_not, equal) at e))
          | inr no_equal ↦ rw (untimed, no_not, no_equal) (fact_fits text t (rw (untimed, no_not, no_equal) at e))
        ]
      ]
    ]

entry_parts_fit : (text : List ℕ) (t : Tree) (at : ℕ) (ts : List Tree) → IsListAt t at ts → all_leaves text ts ≡ [] → (entry_parts text t ts).faults ≡ [] → EntryFits text t (entry_parts text t ts)
entry_parts_fit text t at [] listed leaves e = absurd (cc e)
entry_parts_fit text t at (h ∷ ts) listed leaves e = by_word (form_of text h).word refl e
  where
    by_word : (o : Option (List ℕ)) → (form_of text h).word ≡ o → (option_map_or (λ w. headed_entry text t (place_of text h) w ts) o (fact_entry (ground_atom text t))).faults ≡ []
        → EntryFits text t (option_map_or (λ w. headed_entry text t (place_of text h) w ts) o (fact_entry (ground_atom text t)))
    by_word None is k = fact_fits text t k
    by_word (Some w) is k = headed_fits text t h at (place_of text h) w ts (begun_at text t h at ts w listed is) (nils (leaves_of text h) (all_leaves text ts) leaves).1 k

entry_fits : (text : List ℕ) (t : Tree) → (entry_of text t).faults ≡ [] → leaves_of text t ≡ [] → EntryFits text t (entry_of text t)
entry_fits text t e leaves = by_parts (parts_of t) refl e
  where
    by_parts : (o : Option (List Tree)) → parts_of t ≡ o → (option_map_or (entry_parts text t) o (entry_fault (shape_at (place_of text t)))).faults ≡ []
        → EntryFits text t (option_map_or (entry_parts text t) o (entry_fault (shape_at (place_of text t))))
    by_parts None is k = absurd (cc k)
    by_parts (Some ts) is k =
        let listed = parts_there text t ts is in
        entry_parts_fit text t (form_of text t).at ts listed (sym (list_leaves text t (form_of text t).at ts listed) ∙ leaves) k

-- ---- entries

abbrev facts_of : List ℕ → List Tree → List Atom
facts_of text ts = filter_map (λ (e : Entry). e.fact) (map (entry_of text) ts)

abbrev values_of : List ℕ → List Tree → List (Atom × Decimal)
values_of text ts = filter_map (λ (e : Entry). e.value) (map (entry_of text) ts)

pub entries_fit : (text : List ℕ) (ts : List Tree) → flat_map (λ (e : Entry). e.faults) (map (entry_of text) ts) ≡ [] → all_leaves text ts ≡ []
    → SpellsEntries text ts (filter_map (λ (e : Entry). e.fact) (map (entry_of text) ts)) (filter_map (λ (e : Entry). e.value) (map (entry_of text) ts))
entries_fit text [] e leaves = SpellsEntries.none
entries_fit text (t ∷ ts) e leaves =
    let parts = nils (entry_of text t).faults (flat_map (λ (e : Entry). e.faults) (map (entry_of text) ts)) e in
    let fit = nils (leaves_of text t) (all_leaves text ts) leaves in
    by_entry (entry_of text t) (entry_fits text t parts.0 fit.0) (entries_fit text ts parts.1 fit.1)
  where
    by_entry : (e : Entry) → EntryFits text t e → SpellsEntries text ts (facts_of text ts) (values_of text ts)
        → SpellsEntries text (t ∷ ts) (cons_option e.fact (facts_of text ts)) (cons_option e.value (values_of text ts))
    by_entry e (EntryFits.a_fact a fact value x) rest = rw (fact, value) (SpellsEntries.fact t ts a (facts_of text ts) (values_of text ts) x rest)
    by_entry e (EntryFits.a_value v fact value x) rest = rw (fact, value) (SpellsEntries.value t ts v (facts_of text ts) (values_of text ts) x rest)
    by_entry e (EntryFits.a_negative u at a fact value x y) rest = rw (fact, value) (SpellsEntries.negative t u at ts a (facts_of text ts) (values_of text ts) x y rest)

-- ---- what is spelled is said

-- an entry with these parts, and without a fault
abbrev IsEntry : Entry → Option Atom → Option (Atom × Decimal) → Type 0
IsEntry e fact value = (e.fact ≡ fact) × (e.value ≡ value) × (e.faults ≡ [])

no_number_first : (text : List ℕ) (ts : List Tree) (args : List Arg) → Each (SpellsArg text false) ts args → begins_with_number (forms_of text ts) ≡ false
no_number_first text ts args Each.none = refl
no_number_first text ts args (Each.next t a us more here rest) = by_argument a here
  where
    by_argument : (a : Arg) → SpellsArg text false t a → is_number_leaf (form_of text t) ≡ false
    by_argument (Var name) x = absurd (cc x.0)
    by_argument (Obj name) x =
        ap is_number_leaf (form_of_word text t name.at name.text x.word)
        ∙ false_from_ne_true (is_number_word name.text) (λ n. true≢false (sym x.a_name ∙ number_no_name name.text n))

fact_said : (text : List ℕ) (t : Tree) (a : Atom) → SpellsAtom text false t a → IsEntry (entry_of text t) (Some a) None
fact_said text t a x =
    let w = a.head.text in
    let s = x.head.a_symbol in
    let said = ground_said text t a x in
    let word : (form_of text x.symbol).word ≡ Some w = ap (λ (f : Form). f.word) (form_of_word text x.symbol a.head.at w x.head.word) in
    let untimed = and_right (bytes_eq w (codes "at")) (begins_with_number (forms_of text x.arguments)) (no_number_first text x.arguments a.args x.args) in
    let no_not = other_word is_symbol (codes "not") w refl s in
    let no_equal = other_word is_symbol (codes "=") w refl s in
    let headed : headed_entry text t (place_of text x.symbol) w x.arguments ≡ fact_entry (ground_atom text t) = rw (untimed, no_not, no_equal) refl in
    let is : entry_of text t ≡ fact_entry (ground_atom text t) =
    ap (λ (o : Option (List Tree)). option_map_or (entry_parts text t) o (entry_fault (shape_at (place_of text t)))) (parts_listed t x.at (x.symbol ∷ x.arguments) x.list)
    ∙ ap (λ (o : Option (List ℕ)). option_map_or (λ v. headed_entry text t (place_of text x.symbol) v x.arguments) o (fact_entry (ground_atom text t))) word
    ∙ headed in
    subst (λ (e : Entry). IsEntry e (Some a) None) (sym is) (said.0, refl, said.1)

begun_entry : (text : List ℕ) (t : Tree) (at : ℕ) (w : List ℕ) (ts : List Tree) (x : Begins text t at w ts) → entry_of text t ≡ headed_entry text t (place_of text x.first) w ts
begun_entry text t at w ts x =
    ap (λ (o : Option (List Tree)). option_map_or (entry_parts text t) o (entry_fault (shape_at (place_of text t)))) (parts_listed t at (x.first ∷ ts) x.list)
    ∙ ap (λ (o : Option (List ℕ)). option_map_or (λ v. headed_entry text t (place_of text x.first) v ts) o (fact_entry (ground_atom text t)))
    (ap (λ (f : Form). f.word) (form_of_word text x.first x.first_at w x.word))

negative_said : (text : List ℕ) (t u : Tree) (at : ℕ) (a : Atom) → Begins text t at (codes "not") (u ∷ []) → SpellsAtom text false u a → IsEntry (entry_of text t) None None
negative_said text t u at a x y =
    let said = (ground_said text u a y).1 in
    subst (λ (e : Entry). IsEntry e None None) (sym (begun_entry text t at (codes "not") (u ∷ []) x)) (refl, refl, rw said refl)

value_said : (text : List ℕ) (t : Tree) (v : Atom × Decimal) → SpellsValue text t v → IsEntry (entry_of text t) None (Some v)
value_said text t v x =
    let atom = ground_said text x.fluent v.0 x.atom in
    let form = form_of_word text x.number x.number_at x.word x.leaf in
    let number : is_number_leaf (form_of text x.number) ≡ true = ap is_number_leaf form ∙ x.a_number in
    let taken : number_leaf (form_of text x.number) ≡ Some v.1 = ap number_leaf form ∙ x.number_is in
    let none = atom.1 in
    subst (λ (e : Entry). IsEntry e None (Some v)) (sym (begun_entry text t x.at (codes "=") (x.fluent ∷ x.number ∷ []) x.list))
    (refl, both_values (λ (b : Atom) (d : Decimal). (b, d)) (ground_atom text x.fluent).value (number_leaf (form_of text x.number)) v.0 v.1 atom.0 taken, rw (none, number) refl)

one_more : (text : List ℕ) (t : Tree) (ts : List Tree) (fact : Option Atom) (value : Option (Atom × Decimal)) (facts : List Atom) (values : List (Atom × Decimal))
    → IsEntry (entry_of text t) fact value
    → (filter_map (λ (e : Entry). e.fact) (map (entry_of text) ts) ≡ facts) × (filter_map (λ (e : Entry). e.value) (map (entry_of text) ts) ≡ values) × (flat_map (λ (e : Entry). e.faults) (map (entry_of text) ts) ≡ [])
    → (filter_map (λ (e : Entry). e.fact) (map (entry_of text) (t ∷ ts)) ≡ cons_option fact facts) × (filter_map (λ (e : Entry). e.value) (map (entry_of text) (t ∷ ts)) ≡ cons_option value values)
    × (flat_map (λ (e : Entry). e.faults) (map (entry_of text) (t ∷ ts)) ≡ [])
one_more text t ts fact value facts values here rest =
    (ap₂ cons_option here.0 rest.0, ap₂ cons_option here.1 rest.1, no_more (entry_of text t).faults (flat_map (λ (e : Entry). e.faults) (map (entry_of text) ts)) here.2 rest.2)

pub entries_said : (text : List ℕ) (ts : List Tree) (facts : List Atom) (values : List (Atom × Decimal)) → SpellsEntries text ts facts values
    → (filter_map (λ (e : Entry). e.fact) (map (entry_of text) ts) ≡ facts) × (filter_map (λ (e : Entry). e.value) (map (entry_of text) ts) ≡ values)
    × (flat_map (λ (e : Entry). e.faults) (map (entry_of text) ts) ≡ [])
entries_said text ts facts values SpellsEntries.none = (refl, refl, refl)
entries_said text ts facts values (SpellsEntries.fact t us a more others x rest) = one_more text t us (Some a) None more others (fact_said text t a x) (entries_said text us more others rest)
entries_said text ts facts values (SpellsEntries.value t us v more others x rest) = one_more text t us None (Some v) more others (value_said text t v x) (entries_said text us more others rest)
entries_said text ts facts values (SpellsEntries.negative t u at us a more others x y rest) = one_more text t us None None more others (negative_said text t u at a x y) (entries_said text us more others rest)
