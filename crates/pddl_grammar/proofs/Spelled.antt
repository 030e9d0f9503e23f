-- Trees by their shapes, and small facts on lists, options and words, for what trees spell.
use Rattle.std.proofs.Common.{◌≡◌, ℕ, ◌≤◌, Bool, true, inl, inr, List, [], ◌∷◌, ◌++◌, map, length, Option, Some, None, refl, sym, ap, ap₂, ◌∙◌, subst, false}
use Rattle.std.specs.Prelude.{nat_lt, bytes_eq, flat_map, filter_map, option_map, if◌then◌else◌}
use Rattle.std.specs.Option.{option_map_or}
use Rattle.std.specs.List.{cons_option}
use Rattle.std.proofs.lemmas.Bool.{cases_Bool, le-ltb, ltb-false}
use Rattle.std.proofs.lemmas.Option.{same_Some}
use Rattle.std.proofs.lemmas.Slice.Eq.{bytes_eq-Decides}
use Rattle.sexp_text.specs.declared.marks.Span.{Span}
use Rattle.sexp_text.specs.declared.trees.Tree.{Tree, Tree-F, out-roll-Tree}
use Rattle.sexp_text.specs.declared.trees.Tree.TheVariants as trees
use Rattle.sexp_text.proofs.Walks.{induct_tree}
use Rattle.pddl_trees.specs.declared.faults.Fault.{Fault}
use Rattle.pddl_trees.specs.Words.{word_in}
use Rattle.pddl_trees.specs.Forms.{Parsed, Form, all_of, both, extra, missing, shape_at}
use Rattle.pddl_trees.specs.Trees.{form_of, forms_of, leaf_form, list_form, parts_layer, parts_of}
use Rattle.pddl_trees.specs.Names.{is_headed, is_word}
use Rattle.pddl_grammar.specs.Trees.{Each, IsWordAt, IsListAt, Begins}
use Rattle.pddl_trees.proofs.Trees.{form_of-Leaf, form_of-List}

-- ---- words

pub same_word : (v w : List ℕ) → bytes_eq v w ≡ true → v ≡ w
same_word v w e = (bytes_eq-Decides v w).0 e

pub word_itself : (w : List ℕ) → bytes_eq w w ≡ true
word_itself w = (bytes_eq-Decides w w).1 refl

-- ---- trees

pub data Shape : Tree → Type 0 where
  a_leaf : (span : Span) → Shape (trees.Leaf span)
  a_list : (span : Span) (ts : List Tree) → Shape (trees.List span ts)

pub shape_of : (t : Tree) → Shape t
shape_of = induct_tree Shape Shape.a_leaf (λ span ts h. Shape.a_list span ts)

pub form_of_word : (text : List ℕ) (t : Tree) (at : ℕ) (w : List ℕ) → IsWordAt text t at w → form_of text t ≡ leaf_form at w
form_of_word text t at w x =
    ap (form_of text) x.is_leaf ∙ form_of-Leaf text x.span ∙ ap₂ leaf_form (sym x.place) (sym x.word)

pub form_of_list : (text : List ℕ) (t : Tree) (at : ℕ) (ts : List Tree) → IsListAt t at ts → form_of text t ≡ list_form at (forms_of text ts)
form_of_list text t at ts x =
    ap (form_of text) x.is_list ∙ form_of-List text x.span ts ∙ ap (λ (place : ℕ). list_form place (forms_of text ts)) (sym x.place)

pub form_of_begun : (text : List ℕ) (t : Tree) (at : ℕ) (w : List ℕ) (ts : List Tree) (x : Begins text t at w ts)
    → form_of text t ≡ list_form at (leaf_form x.first_at w ∷ forms_of text ts)
form_of_begun text t at w ts x =
    form_of_list text t at (x.first ∷ ts) x.list ∙ ap (λ (f : Form). list_form at (f ∷ forms_of text ts)) (form_of_word text x.first x.first_at w x.word)

word_at_shape : (text : List ℕ) (t : Tree) (w : List ℕ) → Shape t → (form_of text t).word ≡ Some w → IsWordAt text t (form_of text t).at w
word_at_shape text t w (Shape.a_leaf span) e =
    let form = form_of-Leaf text span in
    record { span = span; is_leaf = refl; place = ap (λ (f : Form). f.at) form; word = cc (sym (ap (λ (f : Form). f.word) form) ∙ e) }
word_at_shape text t w (Shape.a_list span ts) e = absurd (cc (sym (ap (λ (f : Form). f.word) (form_of-List text span ts)) ∙ e))

-- a tree with a word is this leaf
pub word_at : (text : List ℕ) (t : Tree) (w : List ℕ) → (form_of text t).word ≡ Some w → IsWordAt text t (form_of text t).at w
word_at text t w e = word_at_shape text t w (shape_of t) e

pub list_at : (text : List ℕ) (span : Span) (ts : List Tree) → IsListAt (trees.List span ts) (form_of text (trees.List span ts)).at ts
list_at text span ts = record { span = span; is_list = refl; place = ap (λ (f : Form). f.at) (form_of-List text span ts) }

-- a list whose first part has a word begins with it
pub begun_at : (text : List ℕ) (t u : Tree) (at : ℕ) (us : List Tree) (w : List ℕ) → IsListAt t at (u ∷ us) → (form_of text u).word ≡ Some w → Begins text t at w us
begun_at text t u at us w list is = record { first = u; first_at = (form_of text u).at; list = list; word = word_at text u w is }

pub leaf_itself : (text : List ℕ) (span : Span) → IsWordAt text (trees.Leaf span) span.from (word_in text span)
leaf_itself text span = record { span = span; is_leaf = refl; place = refl; word = refl }

pub list_itself : (span : Span) (ts : List Tree) → IsListAt (trees.List span ts) span.from ts
list_itself span ts = record { span = span; is_list = refl; place = refl }

pub parts_of-List : (span : Span) (ts : List Tree) → parts_of (trees.List span ts) ≡ Some ts
parts_of-List span ts = ap parts_of (sym (trees.rolls-List span ts)) ∙ ap parts_layer (out-roll-Tree (Tree-F.List span ts))

pub parts_of-Leaf : (span : Span) → parts_of (trees.Leaf span) ≡ None
parts_of-Leaf span = ap parts_of (sym (trees.rolls-Leaf span)) ∙ ap parts_layer (out-roll-Tree (Tree-F.Leaf span))

-- a tree with parts is the list of these
pub parts_there : (text : List ℕ) (t : Tree) (ts : List Tree) → parts_of t ≡ Some ts → IsListAt t (form_of text t).at ts
parts_there text t ts is = by_shape t (shape_of t) is
  where
    by_shape : (u : Tree) → Shape u → parts_of u ≡ Some ts → IsListAt u (form_of text u).at ts
    by_shape u (Shape.a_leaf span) e = absurd (cc (sym (parts_of-Leaf span) ∙ e))
    by_shape u (Shape.a_list span us) e =
        subst (IsListAt (trees.List span us) (form_of text (trees.List span us)).at) (same_Some us ts (sym (parts_of-List span us) ∙ e)) (list_at text span us)

pub parts_listed : (t : Tree) (at : ℕ) (ts : List Tree) → IsListAt t at ts → parts_of t ≡ Some ts
parts_listed t at ts x = ap parts_of x.is_list ∙ parts_of-List x.span ts

pub place_listed : (text : List ℕ) (t : Tree) (at : ℕ) (ts : List Tree) → IsListAt t at ts → (form_of text t).at ≡ at
place_listed text t at ts x = ap (λ (f : Form). f.at) (form_of_list text t at ts x)

-- a list by the word that it begins with
pub headed_begins : (text : List ℕ) (t : Tree) (w : List ℕ) → (form_of text t).head ≡ Some w → (ts : List Tree) × Begins text t (form_of text t).at w ts
headed_begins text t w is = by_shape t (shape_of t) is
  where
    by_shape : (u : Tree) → Shape u → (form_of text u).head ≡ Some w → (ts : List Tree) × Begins text u (form_of text u).at w ts
    by_shape u (Shape.a_leaf span) e = absurd (cc (sym (ap (λ (f : Form). f.head) (form_of-Leaf text span)) ∙ e))
    by_shape u (Shape.a_list span []) e = absurd (cc (sym (ap (λ (f : Form). f.head) (form_of-List text span [])) ∙ e))
    by_shape u (Shape.a_list span (v ∷ vs)) e =
        (vs, begun_at text (trees.List span (v ∷ vs)) v (form_of text (trees.List span (v ∷ vs))).at vs w (list_at text span (v ∷ vs)) (sym (ap (λ (f : Form). f.head) (form_of-List text span (v ∷ vs))) ∙ e))

pub headed_word : (f : Form) (w : List ℕ) → is_headed w f ≡ true → f.head ≡ Some w
headed_word f w h = by_head f.head h
  where
    by_head : (o : Option (List ℕ)) → option_map_or (λ v. bytes_eq v w) o false ≡ true → o ≡ Some w
    by_head None k = absurd (cc k)
    by_head (Some v) k = ap Some (same_word v w k)

pub is_word_there : (f : Form) (w : List ℕ) → is_word w f ≡ true → f.word ≡ Some w
is_word_there f w h = by_word f.word h
  where
    by_word : (o : Option (List ℕ)) → option_map_or (λ v. bytes_eq v w) o false ≡ true → o ≡ Some w
    by_word None k = absurd (cc k)
    by_word (Some v) k = ap Some (same_word v w k)

pub word_is : (text : List ℕ) (t : Tree) (at : ℕ) (w : List ℕ) → IsWordAt text t at w → is_word w (form_of text t) ≡ true
word_is text t at w x = ap (is_word w) (form_of_word text t at w x) ∙ word_itself w

pub begun_head : (text : List ℕ) (t : Tree) (at : ℕ) (w : List ℕ) (ts : List Tree) → Begins text t at w ts → (form_of text t).head ≡ Some w
begun_head text t at w ts x = ap (λ (f : Form). f.head) (form_of_begun text t at w ts x)

pub begun_headed : (text : List ℕ) (t : Tree) (at : ℕ) (w : List ℕ) (ts : List Tree) → Begins text t at w ts → is_headed w (form_of text t) ≡ true
begun_headed text t at w ts x = ap (λ (o : Option (List ℕ)). option_map_or (λ v. bytes_eq v w) o false) (begun_head text t at w ts x) ∙ word_itself w

-- ---- lists and options

pub nils : {A : Type 0} (a b : List A) → a ++ b ≡ [] → (a ≡ []) × (b ≡ [])
nils [] b e = (refl, e)
nils (x ∷ a) b e = absurd cc

pub no_more : {A : Type 0} (a b : List A) → a ≡ [] → b ≡ [] → a ++ b ≡ []
no_more {A} a b e f = ap₂ (λ (x y : List A). x ++ y) e f

-- a value without a fault
abbrev pub Says : {A : Type 0} → Parsed A → A → Type 0
Says p x = (p.value ≡ Some x) × (p.faults ≡ [])

pub all_of_somes : {A : Type 0} (xs : List A) → all_of (map Some xs) ≡ Some xs
all_of_somes [] = refl
all_of_somes (x ∷ xs) = ap (option_map (λ ys. x ∷ ys)) (all_of_somes xs)

pub filter_map_somes : {A : Type 0} (xs : List A) → filter_map (λ o. o) (map Some xs) ≡ xs
filter_map_somes [] = refl
filter_map_somes {A} (x ∷ xs) = ap (λ (ys : List A). x ∷ ys) (filter_map_somes xs)

pub each_fits : {A B : Type 0} (f : A → Parsed B) (R : A → B → Type 0) → ((x : A) → (f x).faults ≡ [] → (y : B) × ((f x).value ≡ Some y) × R x y)
    → (xs : List A) → flat_map (λ x. (f x).faults) xs ≡ [] → (ys : List B) × (map (λ x. (f x).value) xs ≡ map Some ys) × Each R xs ys
each_fits f R fits [] e = ([], refl, Each.none)
each_fits {A} {B} f R fits (x ∷ xs) e =
    let parts = nils (f x).faults (flat_map (λ x. (f x).faults) xs) e in
    let here = fits x parts.0 in
    let rest = each_fits f R fits xs parts.1 in
    (here.0 ∷ rest.0, ap₂ (λ (v : Option B) (vs : List (Option B)). v ∷ vs) here.1 rest.1, Each.next x here.0 xs rest.0 here.2 rest.2)

-- the same where each must also pass a further test
pub each_fits_with : {A B : Type 0} (f : A → Parsed B) (g : A → List Fault) (R : A → B → Type 0) → ((x : A) → (f x).faults ≡ [] → g x ≡ [] → (y : B) × ((f x).value ≡ Some y) × R x y)
    → (xs : List A) → flat_map (λ x. (f x).faults) xs ≡ [] → flat_map g xs ≡ [] → (ys : List B) × (map (λ x. (f x).value) xs ≡ map Some ys) × Each R xs ys
each_fits_with f g R fits [] e k = ([], refl, Each.none)
each_fits_with {A} {B} f g R fits (x ∷ xs) e k =
    let parts = nils (f x).faults (flat_map (λ x. (f x).faults) xs) e in
    let more = nils (g x) (flat_map g xs) k in
    let here = fits x parts.0 more.0 in
    let rest = each_fits_with f g R fits xs parts.1 more.1 in
    (here.0 ∷ rest.0, ap₂ (λ (v : Option B) (vs : List (Option B)). v ∷ vs) here.1 rest.1, Each.next x here.0 xs rest.0 here.2 rest.2)

pub each_said : {A B : Type 0} (f : A → Parsed B) (R : A → B → Type 0) → ((x : A) (y : B) → R x y → Says (f x) y)
    → (xs : List A) (ys : List B) → Each R xs ys → (map (λ x. (f x).value) xs ≡ map Some ys) × (flat_map (λ x. (f x).faults) xs ≡ [])
each_said f R said xs ys Each.none = (refl, refl)
each_said {A} {B} f R said xs ys (Each.next x y us vs here rest) =
    let a = said x y here in
    let b = each_said f R said us vs rest in
    (ap₂ (λ (v : Option B) (vs : List (Option B)). v ∷ vs) a.0 b.0, no_more (f x).faults (flat_map (λ x. (f x).faults) us) a.1 b.1)

pub filter_map_values : {A B : Type 0} (h : A → Option B) (xs : List A) (ys : List B) → map h xs ≡ map Some ys → filter_map h xs ≡ ys
filter_map_values {A} {B} h xs ys e = sym (through xs) ∙ ap (filter_map (λ o. o)) e ∙ filter_map_somes ys
  where
    through : (us : List A) → filter_map (λ (o : Option B). o) (map h us) ≡ filter_map h us
    through [] = refl
    through (u ∷ us) = ap (cons_option (h u)) (through us)

pub map-map : {A B C : Type 0} (f : B → C) (g : A → B) (xs : List A) → map f (map g xs) ≡ map (λ x. f (g x)) xs
map-map f g [] = refl
map-map {A} {B} {C} f g (x ∷ xs) = ap (λ (ys : List C). f (g x) ∷ ys) (map-map f g xs)

pub flat_map-map : {A B C : Type 0} (f : B → List C) (g : A → B) (xs : List A) → flat_map f (map g xs) ≡ flat_map (λ x. f (g x)) xs
flat_map-map f g [] = refl
flat_map-map {A} {B} {C} f g (x ∷ xs) = ap (λ (ys : List C). f (g x) ++ ys) (flat_map-map f g xs)

-- ---- counts of parts

pub enough : (at count : ℕ) (ts : List Form) → missing at count ts ≡ [] → count ≤ length ts
enough at count ts e =
    elim (cases_Bool (nat_lt (length ts) count)) [
      | inl t ↦ absurd (cc (sym (ap (λ (b : Bool). if b then shape_at at ∷ [] else []) t) ∙ e))
      | inr n ↦ ltb-false (length ts) count n
    ]

pub none_missing : (at count : ℕ) (ts : List Form) → count ≤ length ts → missing at count ts ≡ []
none_missing at count ts h = ap (λ (b : Bool). if b then shape_at at ∷ [] else []) (le-ltb (length ts) count h)

pub past_one : (at : ℕ) (l : List Fault) (f g : Form) (fs : List Form) → l ++ missing at 1 (f ∷ g ∷ fs) ++ extra 1 (f ∷ g ∷ fs) ≡ [] → ⊥
past_one at l f g fs e =
    let parts = nils (l ++ missing at 1 (f ∷ g ∷ fs)) (extra 1 (f ∷ g ∷ fs)) e in
    cc

pub past_two : (at : ℕ) (l : List Fault) (f g h : Form) (fs : List Form) → l ++ missing at 2 (f ∷ g ∷ h ∷ fs) ++ extra 2 (f ∷ g ∷ h ∷ fs) ≡ [] → ⊥
past_two at l f g h fs e =
    let parts = nils (l ++ missing at 2 (f ∷ g ∷ h ∷ fs)) (extra 2 (f ∷ g ∷ h ∷ fs)) e in
    cc

pub too_few : (l : List Fault) (f : Fault) → l ++ f ∷ [] ++ [] ≡ [] → ⊥
too_few [] f e = cc
too_few (g ∷ l) f e = cc

-- ---- two values

pub both_values : {A B C : Type 0} (f : A → B → C) (x : Option A) (y : Option B) (a : A) (b : B) → x ≡ Some a → y ≡ Some b → both f x y ≡ Some (f a b)
both_values f x y a b e g = ap₂ (both f) e g
