-- Typed lists: what trees declare without a fault is what they spell.
use Rattle.std.proofs.Common.{◌≡◌, ℕ, suc, ◌+◌, ◌≤◌, Bool, true, false, inl, inr, List, [], ◌∷◌, ◌++◌, length, Option, Some, None, refl, sym, ap, ap₂, subst, ◌∙◌, append_assoc, length-append, arith}
use Rattle.std.specs.Prelude.{nat_lt, ◌==◌, codes, if◌then◌else◌}
use Rattle.std.specs.Option.{option_map_or}
use Rattle.std.proofs.lemmas.Bool.{cases_Bool, eqb-false, ne_eqb, lt-ltb}
use Rattle.std.proofs.lemmas.List.{append-nil, map-append, length-map}
use Rattle.num_ends.specs.Names.{is_name}
use Rattle.sexp_text.specs.declared.trees.Tree.{Tree}
use Rattle.pddl_terms.specs.declared.names.Name.{Name}
use Rattle.pddl_terms.specs.declared.names.Typed.{Typed}
use Rattle.pddl_terms.specs.declared.limits.What.{What}
use Rattle.pddl_trees.specs.declared.faults.Fault.{Fault}
use Rattle.pddl_trees.specs.Forms.{Form, shape_at}
use Rattle.pddl_trees.specs.Trees.{form_of, forms_of, leaf_form}
use Rattle.pddl_trees.specs.TypedLists.{Kind, Listed, after, fits_kind, past_limit, typed_as, typed_from, typed_list, untyped, word_or_empty}
use Rattle.pddl_trees.specs.Names.{is_headed, is_word, named_at, type_faults, type_name}
use Rattle.pddl_trees.specs.Leaves.{all_leaves, leaves_of}
use Rattle.pddl_grammar.proofs.SpelledLeaves.{no_either}
use Rattle.pddl_grammar.proofs.SpelledWords.{other_word}
use Rattle.pddl_grammar.specs.Trees.{Each, IsWordAt}
use Rattle.pddl_grammar.specs.Lists.{FitsAs, SpellsTyped}
use Rattle.pddl_grammar.specs.Atoms.{SpellsName}
use Rattle.pddl_grammar.proofs.Spelled.{nils, form_of_word, word_at, is_word_there, word_is}

-- ---- types

type_named_by : (text : List ℕ) (t : Tree) (o : Option (List ℕ)) → (form_of text t).word ≡ o
    → option_map_or (λ (n : Name). []) (option_map_or (λ w. if is_name w then Some (named_at (form_of text t).at w) else None) o None) (if is_headed (codes "either") (form_of text t) then [] else shape_at (form_of text t).at ∷ []) ≡ []
    → is_headed (codes "either") (form_of text t) ≡ false
    → (n : Name) × (option_map_or (λ w. if is_name w then Some (named_at (form_of text t).at w) else None) o None ≡ Some n) × SpellsName text t n
type_named_by text t None is e unheaded = absurd (cc (rw unheaded at e))
type_named_by text t (Some w) is e unheaded =
    elim (cases_Bool (is_name w)) [
      | inl n ↦ (named_at (form_of text t).at w, rw n refl, record { word = word_at text t w is; a_name = n })
      | inr n ↦ absurd (cc (rw (n, unheaded) at e))
    ]

-- a tree without a fault as a type is the name of one
pub type_fits : (text : List ℕ) (t : Tree) → type_faults (form_of text t) ≡ [] → leaves_of text t ≡ [] → (n : Name) × (type_name (form_of text t) ≡ Some n) × SpellsName text t n
type_fits text t e leaves = type_named_by text t (form_of text t).word refl e (no_either text t leaves)

pub type_said : (text : List ℕ) (t : Tree) (n : Name) → SpellsName text t n → type_name (form_of text t) ≡ Some n
type_said text t n x =
    let named = x.a_name in
    ap type_name (form_of_word text t n.at n.text x.word) ∙ rw named refl

-- ---- limits

-- so many names are within the limit
abbrev pub HasRoom : Option (What × ℕ) → ℕ → Type 0
HasRoom None count = Unit {0}
HasRoom (Some l) count = count ≤ l.1

abbrev kind_of : (List ℕ → Bool) → Option (What × ℕ) → Kind
kind_of fits limit = record { fits = fits; limit = limit }

room_below : (limit : Option (What × ℕ)) (a b : ℕ) → a ≤ b → HasRoom limit b → HasRoom limit a
room_below None a b h room = tt
room_below (Some l) a b h room = omega arith

room_more : (fits : List ℕ → Bool) (limit : Option (What × ℕ)) (seen at : ℕ) → HasRoom limit seen → past_limit (kind_of fits limit) seen at ≡ [] → HasRoom limit (suc seen)
room_more fits None seen at room e = tt
room_more fits (Some l) seen at room e =
    elim (cases_Bool (seen == l.1)) [
      | inl t ↦ absurd (cc (rw t at e))
      | inr n ↦
          let other = eqb-false seen l.1 n in
          omega arith
    ]

none_past : (fits : List ℕ → Bool) (limit : Option (What × ℕ)) (seen at : ℕ) → HasRoom limit (suc seen) → past_limit (kind_of fits limit) seen at ≡ []
none_past fits None seen at room = refl
none_past fits (Some l) seen at room =
    let other : (seen == l.1) ≡ false = ne_eqb seen l.1 (λ same. omega arith) in
    rw other refl

-- ---- single steps

module _ (kind : Kind) (at seen : ℕ) (waiting : List Name) (f : Form) (fs : List Form) where
  from_dash : is_word (codes "-") f ≡ true
      → typed_from kind at seen false waiting (f ∷ fs) ≡ after [] (if nat_lt 0 (length waiting) then [] else shape_at f.at ∷ []) (typed_from kind at seen true waiting fs)
  unfolding typed_from
  from_dash dash = rw dash refl

  from_name : is_word (codes "-") f ≡ false → fits_kind kind f ≡ true
      → typed_from kind at seen false waiting (f ∷ fs) ≡ after [] (past_limit kind seen f.at) (typed_from kind at (suc seen) false (waiting ++ named_at f.at (word_or_empty f) ∷ []) fs)
  unfolding typed_from
  from_name dash named = rw (dash, named) refl

  from_other : is_word (codes "-") f ≡ false → fits_kind kind f ≡ false
      → typed_from kind at seen false waiting (f ∷ fs) ≡ after [] (shape_at f.at ∷ []) (typed_from kind at seen false waiting fs)
  unfolding typed_from
  from_other dash named = rw (dash, named) refl

  from_type : typed_from kind at seen true waiting (f ∷ fs) ≡ after (option_map_or (λ n. typed_as n waiting) (type_name f) (untyped waiting)) (type_faults f) (typed_from kind at seen false [] fs)
  unfolding typed_from
  from_type = refl

from_nothing : (kind : Kind) (at seen : ℕ) (waiting : List Name) → typed_from kind at seen false waiting [] ≡ record { items = untyped waiting; faults = [] }
unfolding typed_from
from_nothing kind at seen waiting = refl

from_end : (kind : Kind) (at seen : ℕ) (waiting : List Name) → (typed_from kind at seen true waiting []).faults ≡ [] → ⊥
unfolding typed_from
from_end kind at seen waiting e = cc

-- ---- what is declared without a fault is spelled

-- names with a dash behind them
record HasDash (text : List ℕ) (fits : List ℕ → Bool) (us : List Tree) (names : List Name) : Type 0 where
  first : Tree
  trees : List Tree
  name : Name
  rest : List Name
  dash : Tree
  place : ℕ
  us_are : us ≡ (first ∷ trees) ++ dash ∷ []
  names_are : names ≡ name ∷ rest
  each : Each (FitsAs text fits) (first ∷ trees) (name ∷ rest)
  a_dash : IsWordAt text dash place (codes "-")

-- the trees in front of the others, with the names that wait for a type
abbrev Before : List ℕ → (List ℕ → Bool) → Bool → List Tree → List Name → Type 0
Before text fits false us names = Each (FitsAs text fits) us names
Before text fits true us names = HasDash text fits us names

each_push : {A B : Type 0} (R : A → B → Type 0) (xs : List A) (ys : List B) (x : A) (y : B) → Each R xs ys → R x y → Each R (xs ++ x ∷ []) (ys ++ y ∷ [])
each_push R xs ys x y Each.none h = Each.next x y [] [] h Each.none
each_push R xs ys x y (Each.next u v us vs first rest) h = Each.next u v (us ++ x ∷ []) (vs ++ y ∷ []) first (each_push R us vs x y rest h)

dash_behind : (text : List ℕ) (fits : List ℕ → Bool) (us : List Tree) (names : List Name) (t : Tree) (at : ℕ) → Each (FitsAs text fits) us names → IsWordAt text t at (codes "-")
    → (if nat_lt 0 (length names) then [] else shape_at at ∷ []) ≡ [] → HasDash text fits (us ++ t ∷ []) names
dash_behind text fits us names t at Each.none word e = absurd cc
dash_behind text fits us names t at (Each.next u n vs ns first rest) word e =
    record { first = u; trees = vs; name = n; rest = ns; dash = t; place = at; us_are = refl; names_are = refl; each = Each.next u n vs ns first rest; a_dash = word }

name_fits : (text : List ℕ) (fits : List ℕ → Bool) (t : Tree) → option_map_or fits (form_of text t).word false ≡ true → FitsAs text fits t (named_at (form_of text t).at (word_or_empty (form_of text t)))
name_fits text fits t h = by_word (form_of text t).word refl h
  where
    by_word : (o : Option (List ℕ)) → (form_of text t).word ≡ o → option_map_or fits o false ≡ true → FitsAs text fits t (named_at (form_of text t).at (option_map_or (λ w. w) o []))
    by_word None is k = absurd (cc k)
    by_word (Some w) is k = record { word = word_at text t w is; fitting = k }

typed_fits : (text : List ℕ) (fits : List ℕ → Bool) (limit : Option (What × ℕ)) (at : ℕ) (ts : List Tree) (dash : Bool) (seen : ℕ) (us : List Tree) (waiting : List Name)
    → Before text fits dash us waiting → (typed_from (kind_of fits limit) at seen dash waiting (forms_of text ts)).faults ≡ [] → all_leaves text ts ≡ []
    → SpellsTyped text fits (us ++ ts) (typed_from (kind_of fits limit) at seen dash waiting (forms_of text ts)).items
typed_fits text fits limit at [] true seen us waiting before e leaves = absurd (from_end (kind_of fits limit) at seen waiting e)
typed_fits text fits limit at [] false seen us waiting before e leaves =
    subst (λ (l : Listed Typed). SpellsTyped text fits (us ++ []) l.items) (sym (from_nothing (kind_of fits limit) at seen waiting))
    (subst (λ (l : List Tree). SpellsTyped text fits l (untyped waiting)) (sym (append-nil us)) (SpellsTyped.last us waiting before))
typed_fits text fits limit at (t ∷ ts) true seen us waiting before e leaves =
    let kind = kind_of fits limit in
    let f = form_of text t in
    let rest = typed_from kind at seen false [] (forms_of text ts) in
    let step = from_type kind at seen waiting f (forms_of text ts) in
    let faults = nils (type_faults f) rest.faults (sym (ap (λ (l : Listed Typed). l.faults) step) ∙ e) in
    let fit = nils (leaves_of text t) (all_leaves text ts) leaves in
    let found = type_fits text t faults.0 fit.0 in
    let later = typed_fits text fits limit at ts false seen [] [] Each.none faults.1 fit.1 in
    let all = SpellsTyped.group before.first before.trees before.name before.rest before.dash before.place t found.0 ts rest.items before.each before.a_dash found.2 later in
    let trees : us ++ t ∷ ts ≡ (before.first ∷ before.trees) ++ before.dash ∷ t ∷ ts =
    ap (λ (l : List Tree). l ++ t ∷ ts) before.us_are ∙ append_assoc (before.first ∷ before.trees) (before.dash ∷ []) (t ∷ ts) in
    let items : (typed_from kind at seen true waiting (f ∷ forms_of text ts)).items ≡ typed_as found.0 (before.name ∷ before.rest) ++ rest.items =
    ap (λ (l : Listed Typed). l.items) step ∙ ap₂ (λ (o : Option Name) (ns : List Name). option_map_or (λ n. typed_as n ns) o (untyped ns) ++ rest.items) found.1 before.names_are in
    subst (λ (l : List Typed). SpellsTyped text fits (us ++ t ∷ ts) l) (sym items) (subst (λ (l : List Tree). SpellsTyped text fits l (typed_as found.0 (before.name ∷ before.rest) ++ rest.items)) (sym trees) all)
typed_fits text fits limit at (t ∷ ts) false seen us waiting before e leaves =
    let kind = kind_of fits limit in
    let f = form_of text t in
    let fs = forms_of text ts in
    let fit = nils (leaves_of text t) (all_leaves text ts) leaves in
    elim (cases_Bool (is_word (codes "-") f)) [
      | inl dash ↦
          let step = from_dash kind at seen waiting f fs dash in
          let rest = typed_from kind at seen true waiting fs in
          let faults = nils (if nat_lt 0 (length waiting) then [] else shape_at f.at ∷ []) rest.faults (sym (ap (λ (l : Listed Typed). l.faults) step) ∙ e) in
          let behind = dash_behind text fits us waiting t f.at before (word_at text t (codes "-") (is_word_there f (codes "-") dash)) faults.0 in
          let later = typed_fits text fits limit at ts true seen (us ++ t ∷ []) waiting behind faults.1 fit.1 in
          subst (λ (l : Listed Typed). SpellsTyped text fits (us ++ t ∷ ts) l.items) (sym step) (subst (λ (l : List Tree). SpellsTyped text fits l rest.items) (append_assoc us (t ∷ []) ts) later)
      | inr no_dash ↦ elim (cases_Bool (fits_kind kind f)) [
        | inl named ↦
            let step = from_name kind at seen waiting f fs no_dash named in
            let name = named_at f.at (word_or_empty f) in
            let rest = typed_from kind at (suc seen) false (waiting ++ name ∷ []) fs in
            let faults = nils (past_limit kind seen f.at) rest.faults (sym (ap (λ (l : Listed Typed). l.faults) step) ∙ e) in
            let later = typed_fits text fits limit at ts false (suc seen) (us ++ t ∷ []) (waiting ++ name ∷ []) (each_push (FitsAs text fits) us waiting t name before (name_fits text fits t named)) faults.1 fit.1 in
            subst (λ (l : Listed Typed). SpellsTyped text fits (us ++ t ∷ ts) l.items) (sym step) (subst (λ (l : List Tree). SpellsTyped text fits l rest.items) (append_assoc us (t ∷ []) ts) later)
        | inr unnamed ↦
            let step = from_other kind at seen waiting f fs no_dash unnamed in
            absurd (cc (sym (ap (λ (l : Listed Typed). l.faults) step) ∙ e))
      ]
    ]

-- ---- no more than the limit

few_typed : (o : Option Name) (waiting : List Name) → length (option_map_or (λ n. typed_as n waiting) o (untyped waiting)) ≤ length waiting
few_typed None waiting =
    let same : length (untyped waiting) ≡ length waiting = length-map waiting (λ (n : Name). record { name = n; kind = named_at n.at (codes "object") }) in
    omega arith
few_typed (Some n) waiting =
    let same : length (typed_as n waiting) ≡ length waiting = length-map waiting (λ (m : Name). record { name = m; kind = n }) in
    omega arith

typed_few : (fits : List ℕ → Bool) (limit : Option (What × ℕ)) (at : ℕ) (fs : List Form) (dash : Bool) (seen done : ℕ) (waiting : List Name) → done + length waiting ≡ seen
    → HasRoom limit seen → (typed_from (kind_of fits limit) at seen dash waiting fs).faults ≡ [] → HasRoom limit (done + length (typed_from (kind_of fits limit) at seen dash waiting fs).items)
typed_few fits limit at [] true seen done waiting count room e = absurd (from_end (kind_of fits limit) at seen waiting e)
typed_few fits limit at [] false seen done waiting count room e =
    let same : length (untyped waiting) ≡ length waiting = length-map waiting (λ (n : Name). record { name = n; kind = named_at n.at (codes "object") }) in
    let length_is : length (typed_from (kind_of fits limit) at seen false waiting []).items ≡ length waiting = ap (λ (l : Listed Typed). length l.items) (from_nothing (kind_of fits limit) at seen waiting) ∙ same in
    room_below limit (done + length (typed_from (kind_of fits limit) at seen false waiting []).items) seen (omega arith) room
typed_few fits limit at (f ∷ fs) true seen done waiting count room e =
    let kind = kind_of fits limit in
    let rest = typed_from kind at seen false [] fs in
    let step = from_type kind at seen waiting f fs in
    let front = option_map_or (λ n. typed_as n waiting) (type_name f) (untyped waiting) in
    let faults = nils (type_faults f) rest.faults (sym (ap (λ (l : Listed Typed). l.faults) step) ∙ e) in
    let later = typed_few fits limit at fs false seen seen [] (omega arith) room faults.1 in
    let few = few_typed (type_name f) waiting in
    let long : length (typed_from kind at seen true waiting (f ∷ fs)).items ≡ length front + length rest.items = ap (λ (l : Listed Typed). length l.items) step ∙ length-append front rest.items in
    room_below limit (done + length (typed_from kind at seen true waiting (f ∷ fs)).items) (seen + length rest.items) (omega arith) later
typed_few fits limit at (f ∷ fs) false seen done waiting count room e =
    let kind = kind_of fits limit in
    elim (cases_Bool (is_word (codes "-") f)) [
      | inl dash ↦
          let step = from_dash kind at seen waiting f fs dash in
          let rest = typed_from kind at seen true waiting fs in
          let faults = nils (if nat_lt 0 (length waiting) then [] else shape_at f.at ∷ []) rest.faults (sym (ap (λ (l : Listed Typed). l.faults) step) ∙ e) in
          subst (λ (l : Listed Typed). HasRoom limit (done + length l.items)) (sym step) (typed_few fits limit at fs true seen done waiting count room faults.1)
      | inr no_dash ↦ elim (cases_Bool (fits_kind kind f)) [
        | inl named ↦
            let step = from_name kind at seen waiting f fs no_dash named in
            let name = named_at f.at (word_or_empty f) in
            let rest = typed_from kind at (suc seen) false (waiting ++ name ∷ []) fs in
            let faults = nils (past_limit kind seen f.at) rest.faults (sym (ap (λ (l : Listed Typed). l.faults) step) ∙ e) in
            let long = length-append waiting (name ∷ []) in
            subst (λ (l : Listed Typed). HasRoom limit (done + length l.items)) (sym step)
            (typed_few fits limit at fs false (suc seen) done (waiting ++ name ∷ []) (omega arith) (room_more fits limit seen f.at room faults.0) faults.1)
        | inr unnamed ↦
            let step = from_other kind at seen waiting f fs no_dash unnamed in
            absurd (cc (sym (ap (λ (l : Listed Typed). l.faults) step) ∙ e))
      ]
    ]

room_none : (limit : Option (What × ℕ)) → HasRoom limit 0
room_none None = tt
room_none (Some l) = omega arith

-- a typed list that is declared without a fault, and whose leaves have none, is spelled, and is within the limit
pub typed_list_fits : (text : List ℕ) (fits : List ℕ → Bool) (limit : Option (What × ℕ)) (at : ℕ) (ts : List Tree)
    → (typed_list (record { fits = fits; limit = limit }) at (forms_of text ts)).faults ≡ [] → all_leaves text ts ≡ []
    → SpellsTyped text fits ts (typed_list (record { fits = fits; limit = limit }) at (forms_of text ts)).items
    × HasRoom limit (length (typed_list (record { fits = fits; limit = limit }) at (forms_of text ts)).items)
typed_list_fits text fits limit at ts e leaves =
    let few = typed_few fits limit at (forms_of text ts) false 0 0 [] refl (room_none limit) e in
    let all = (typed_list (kind_of fits limit) at (forms_of text ts)).items in
    let zero_more : 0 + length all ≡ length all = omega arith in
    (typed_fits text fits limit at ts false 0 [] [] Each.none e leaves, subst (HasRoom limit) zero_more few)

-- ---- what is spelled is declared

names_said : (text : List ℕ) (fits : List ℕ → Bool) (limit : Option (What × ℕ)) (at : ℕ) → fits (codes "-") ≡ false → (ts : List Tree) (names : List Name) → Each (FitsAs text fits) ts names
    → (seen : ℕ) (waiting : List Name) (rest : List Form) → HasRoom limit (seen + length names)
    → typed_from (kind_of fits limit) at seen false waiting (forms_of text ts ++ rest) ≡ typed_from (kind_of fits limit) at (seen + length names) false (waiting ++ names) rest
names_said text fits limit at no_dash ts names Each.none seen waiting rest room =
    let same : seen ≡ seen + length {A = Name} [] = omega arith in
    ap₂ (λ (n : ℕ) (ns : List Name). typed_from (kind_of fits limit) at n false ns rest) same (sym (append-nil waiting))
names_said text fits limit at no_dash ts names (Each.next t n us ns first others) seen waiting rest room =
    let kind = kind_of fits limit in
    let form = form_of_word text t n.at n.text first.word in
    let more = forms_of text us ++ rest in
    let fit = first.fitting in
    let other : is_word (codes "-") (leaf_form n.at n.text) ≡ false = other_word fits (codes "-") n.text no_dash fit in
    let here = from_name kind at seen waiting (leaf_form n.at n.text) more other fit in
    let count : suc seen + length ns ≡ seen + length (n ∷ ns) = omega arith in
    let none = none_past fits limit seen n.at (room_below limit (suc seen) (seen + length (n ∷ ns)) (omega arith) room) in
    let later = names_said text fits limit at no_dash us ns others (suc seen) (waiting ++ n ∷ []) rest (subst (HasRoom limit) (sym count) room) in
    ap (λ (f : Form). typed_from kind at seen false waiting (f ∷ more)) form
    ∙ here
    ∙ ap (λ (l : List Fault). after [] l (typed_from kind at (suc seen) false (waiting ++ n ∷ []) more)) none
    ∙ later
    ∙ ap₂ (λ (m : ℕ) (l : List Name). typed_from kind at m false l rest) count (append_assoc waiting (n ∷ []) ns)

typed_said : (text : List ℕ) (fits : List ℕ → Bool) (limit : Option (What × ℕ)) (at : ℕ) → fits (codes "-") ≡ false → (ts : List Tree) (items : List Typed) → SpellsTyped text fits ts items
    → (seen : ℕ) → HasRoom limit (seen + length items) → typed_from (kind_of fits limit) at seen false [] (forms_of text ts) ≡ record { items = items; faults = [] }
typed_said text fits limit at no_dash ts items (SpellsTyped.last us names each) seen room =
    let kind = kind_of fits limit in
    let same : length (untyped names) ≡ length names = length-map names (λ (n : Name). record { name = n; kind = named_at n.at (codes "object") }) in
    let room' = subst (λ (n : ℕ). HasRoom limit (seen + n)) same room in
    ap (typed_from kind at seen false []) (sym (append-nil (forms_of text us)))
    ∙ names_said text fits limit at no_dash us names each seen [] [] room'
    ∙ from_nothing kind at (seen + length names) names
typed_said text fits limit at no_dash ts items (SpellsTyped.group t us n names dash place k type rest more each a_dash a_type others) seen room =
    let kind = kind_of fits limit in
    let all = n ∷ names in
    let typed = typed_as type all in
    let same : length typed ≡ length all = length-map all (λ (m : Name). record { name = m; kind = type }) in
    let long = length-append typed more in
    let room' = room_below limit (seen + length all) (seen + length (typed ++ more)) (omega arith) room in
    let split : forms_of text ((t ∷ us) ++ dash ∷ k ∷ rest) ≡ forms_of text (t ∷ us) ++ form_of text dash ∷ form_of text k ∷ forms_of text rest = map-append (form_of text) (t ∷ us) (dash ∷ k ∷ rest) in
    let here : is_word (codes "-") (form_of text dash) ≡ true = word_is text dash place (codes "-") a_dash in
    let some : nat_lt 0 (length all) ≡ true = lt-ltb 0 (length all) (omega arith) in
    let count : seen + length all + length more ≡ seen + length (typed ++ more) = omega arith in
    let later = typed_said text fits limit at no_dash rest more others (seen + length all) (subst (HasRoom limit) (sym count) room) in
    ap (typed_from kind at seen false []) split
    ∙ names_said text fits limit at no_dash (t ∷ us) all each seen [] (form_of text dash ∷ form_of text k ∷ forms_of text rest) room'
    ∙ from_dash kind at (seen + length all) all (form_of text dash) (form_of text k ∷ forms_of text rest) here
    ∙ ap (λ (b : Bool). after [] (if b then [] else shape_at (form_of text dash).at ∷ []) (typed_from kind at (seen + length all) true all (form_of text k ∷ forms_of text rest))) some
    ∙ from_type kind at (seen + length all) all (form_of text k) (forms_of text rest)
    ∙ ap (λ (o : Option Name). after (option_map_or (λ m. typed_as m all) o (untyped all)) (option_map_or (λ m. []) o (if is_headed (codes "either") (form_of text k) then [] else shape_at (form_of text k).at ∷ [])) (typed_from kind at (seen + length all) false [] (forms_of text rest))) (type_said text k type a_type)
    ∙ ap (λ (l : Listed Typed). after typed [] l) later

-- a spelled typed list within the limit is declared without a fault
pub typed_list_said : (text : List ℕ) (fits : List ℕ → Bool) (limit : Option (What × ℕ)) (at : ℕ) → fits (codes "-") ≡ false → (ts : List Tree) (items : List Typed) → SpellsTyped text fits ts items
    → HasRoom limit (length items) → typed_list (record { fits = fits; limit = limit }) at (forms_of text ts) ≡ record { items = items; faults = [] }
typed_list_said text fits limit at no_dash ts items spelled room =
    let zero_more : 0 + length items ≡ length items = omega arith in
    typed_said text fits limit at no_dash ts items spelled 0 (subst (HasRoom limit) (sym zero_more) room)
