-- Names and atoms that a text spells are readable.
use Rattle.std.proofs.Common.{◌≡◌, ℕ, ◌≤◌, Bool, true, false, ◌&&◌, List, [], ◌∷◌, ◌++◌, length, refl, sym, ap, subst, ◌∙◌, arith}
use Rattle.std.specs.Prelude.{◌==◌, nat_le}
use Rattle.std.specs.List.{list_all}
use Rattle.std.proofs.lemmas.Bool.{and_from, and_parts, cond-false, cond-true, le-leb, true≢false}
use Rattle.std.proofs.lemmas.Bool.Decides.{nat_tests}
use Rattle.num_ends.specs.Names.{begins_name, continues_name, is_name}
use Rattle.sexp_text.specs.declared.trees.Tree.{Tree}
use Rattle.pddl_terms.specs.declared.names.Name.{Name}
use Rattle.pddl_terms.specs.declared.names.Arg.{Arg}
use Rattle.pddl_terms.specs.declared.names.Arg.TheVariants.{Var, Obj}
use Rattle.pddl_terms.specs.declared.names.Atom.{Atom}
use Rattle.pddl_terms.specs.declared.limits.TheConstants.{MAX_LETTERS}
use Rattle.pddl_terms.specs.Readable.{is_readable_argument, is_readable_atom, is_short_name, is_short_variable}
use Rattle.pddl_trees.specs.Words.{bare_name, is_symbol, is_variable}
use Rattle.pddl_trees.specs.Leaves.{all_leaves, leaves_of}
use Rattle.pddl_grammar.specs.Trees.{Begins, Each, IsListAt, IsWordAt}
use Rattle.pddl_grammar.specs.Leaves.{IsFitLeaf}
use Rattle.pddl_grammar.specs.Atoms.{SpellsArg, SpellsAtom, SpellsName, SpellsSymbol, SpellsVariable}
use Rattle.pddl_grammar.proofs.Spelled.{nils}
use Rattle.pddl_grammar.proofs.SpelledLeaves.{begun_leaves, list_leaves, word_leaves}
use Rattle.pddl_grammar.proofs.SpelledMarks.{leaf_is_fit}
use Rattle.pddl_grammar.proofs.SpelledWords.{number_no_name, number_no_variable, symbol_named}

-- ---- words

no_mark : (b : ℕ) → begins_name b ≡ true → (b == 63) ≡ false
no_mark b h = grind (arith, nat_tests)

bare_of_name : (w : List ℕ) → is_name w ≡ true → bare_name w ≡ w
bare_of_name [] h = refl
bare_of_name (b ∷ bs) h = cond-false _ _ _ (no_mark b (and_parts (begins_name b) (list_all continues_name bs) h).0)

short_name : (w : List ℕ) → is_name w ≡ true → length w ≤ MAX_LETTERS → is_short_name w ≡ true
short_name w named few = and_from (is_name w) (nat_le (length w) MAX_LETTERS) named (le-leb (length w) MAX_LETTERS few)

pub fit_name : (w : List ℕ) → IsFitLeaf w → is_name w ≡ true → is_short_name w ≡ true
fit_name w (IsFitLeaf.a_number d n is) named = absurd (true≢false (sym named ∙ number_no_name w n))
fit_name w (IsFitLeaf.a_word n short known) named =
    let same = bare_of_name w named in
    short_name w named (subst (λ (v : List ℕ). length v ≤ MAX_LETTERS) same (short (ap is_name same ∙ named)))

pub fit_variable : (w : List ℕ) → IsFitLeaf w → is_variable w ≡ true → is_short_variable w ≡ true
fit_variable [] fit v = absurd (cc v)
fit_variable (b ∷ bs) (IsFitLeaf.a_number d n is) v = absurd (true≢false (sym v ∙ number_no_variable (b ∷ bs) n))
fit_variable (b ∷ bs) (IsFitLeaf.a_word n short known) v =
    let parts = and_parts (b == 63) (is_name bs) v in
    let same : bare_name (b ∷ bs) ≡ bs = cond-true _ _ _ parts.0 in
    let few = subst (λ (w : List ℕ). length w ≤ MAX_LETTERS) same (short (ap is_name same ∙ parts.1)) in
    and_from (b == 63) (is_short_name bs) parts.0 (short_name bs parts.1 few)

-- ---- trees without faulty leaves

pub fit_word : (text : List ℕ) (t : Tree) (at : ℕ) (w : List ℕ) → IsWordAt text t at w → leaves_of text t ≡ [] → IsFitLeaf w
fit_word text t at w x clean = leaf_is_fit at w (sym (word_leaves text t at w x) ∙ clean)

pub parts_clean : (text : List ℕ) (t : Tree) (at : ℕ) (ts : List Tree) → IsListAt t at ts → leaves_of text t ≡ [] → all_leaves text ts ≡ []
parts_clean text t at ts x clean = sym (list_leaves text t at ts x) ∙ clean

pub begun_clean : (text : List ℕ) (t : Tree) (at : ℕ) (w : List ℕ) (ts : List Tree) → Begins text t at w ts → leaves_of text t ≡ [] → all_leaves text ts ≡ []
begun_clean text t at w ts x clean = (nils _ (all_leaves text ts) (sym (begun_leaves text t at w ts x) ∙ clean)).1

pub first_clean : (text : List ℕ) (t : Tree) (ts : List Tree) → all_leaves text (t ∷ ts) ≡ [] → leaves_of text t ≡ []
first_clean text t ts clean = (nils (leaves_of text t) (all_leaves text ts) clean).0

pub rest_clean : (text : List ℕ) (t : Tree) (ts : List Tree) → all_leaves text (t ∷ ts) ≡ [] → all_leaves text ts ≡ []
rest_clean text t ts clean = (nils (leaves_of text t) (all_leaves text ts) clean).1

-- ---- names and atoms

pub name_readable : (text : List ℕ) (t : Tree) (n : Name) → SpellsName text t n → leaves_of text t ≡ [] → is_short_name n.text ≡ true
name_readable text t n x clean = fit_name n.text (fit_word text t n.at n.text x.word clean) x.a_name

pub symbol_readable : (text : List ℕ) (t : Tree) (n : Name) → SpellsSymbol text t n → leaves_of text t ≡ [] → is_short_name n.text ≡ true
symbol_readable text t n x clean = fit_name n.text (fit_word text t n.at n.text x.word clean) (symbol_named n.text x.a_symbol)

pub argument_readable : (text : List ℕ) (variables : Bool) (t : Tree) (a : Arg) → SpellsArg text variables t a → leaves_of text t ≡ [] → is_readable_argument a ≡ true
argument_readable text variables t (Var n) x clean = fit_variable n.text (fit_word text t n.at n.text x.1.word clean) x.1.a_variable
argument_readable text variables t (Obj n) x clean = name_readable text t n x clean

arguments_readable : (text : List ℕ) (variables : Bool) (ts : List Tree) (args : List Arg) → Each (SpellsArg text variables) ts args → all_leaves text ts ≡ []
    → list_all is_readable_argument args ≡ true
arguments_readable text variables ts args Each.none clean = refl
arguments_readable text variables ts args (Each.next t a us as' here later) clean =
    and_from (is_readable_argument a) (list_all is_readable_argument as')
    (argument_readable text variables t a here (first_clean text t us clean)) (arguments_readable text variables us as' later (rest_clean text t us clean))

pub atom_readable : (text : List ℕ) (variables : Bool) (t : Tree) (a : Atom) → SpellsAtom text variables t a → leaves_of text t ≡ [] → is_readable_atom a ≡ true
atom_readable text variables t a x clean =
    let parts = parts_clean text t x.at (x.symbol ∷ x.arguments) x.list clean in
    and_from (is_short_name a.head.text) (list_all is_readable_argument a.args)
    (symbol_readable text x.symbol a.head x.head (first_clean text x.symbol x.arguments parts))
    (arguments_readable text variables x.arguments a.args x.args (rest_clean text x.symbol x.arguments parts))
