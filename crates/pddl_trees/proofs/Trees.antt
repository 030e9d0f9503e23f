-- What leaves and lists say, and the forms of a list's trees.
use Rattle.std.proofs.Common.{◌≡◌, true, ℕ, zero, suc, ◌+◌, ◌<◌, ◌≤◌, arith, get_or, List, [], ◌∷◌, Some, None, take, drop, length, refl, sym, ap, ◌∙◌}
use Rattle.std.specs.Prelude.{flat_map}
use Rattle.std.proofs.lemmas.List.{append-nil}
use Rattle.pddl_trees.specs.declared.faults.Fault.{Fault}
use Rattle.sexp_text.specs.declared.marks.Span.{Span}
use Rattle.sexp_text.specs.declared.trees.Tree.{Tree, Tree-F, fold-Tree, fold-roll-Tree}
use Rattle.sexp_text.specs.declared.trees.Tree.TheVariants as trees
use Rattle.pddl_terms.specs.declared.conditions.Cond.{Cond}
use Rattle.pddl_terms.specs.declared.names.Atom.{Atom}
use Rattle.pddl_trees.specs.Words.{word_in}
use Rattle.pddl_trees.specs.Forms.{Form, extra, misfit, shape_at}
use Rattle.pddl_trees.specs.Atoms.{atom_of}
use Rattle.pddl_trees.specs.Conditions.{cond_of, measured_cond}
use Rattle.pddl_trees.specs.Effects.{effects_of}
use Rattle.pddl_trees.specs.Expressions.{expr_of, leaf_expr}
use Rattle.pddl_trees.specs.Trees.{form_layer, form_of, forms_of, head_word, leaf_form, list_form}

pub form_of-Leaf : (text : List ℕ) (span : Span) → form_of text (trees.Leaf span) ≡ leaf_form span.from (word_in text span)
unfolding form_of
form_of-Leaf text span =
    ap (fold-Tree Form (form_layer text)) (sym (trees.rolls-Leaf span)) ∙ fold-roll-Tree Form (form_layer text) (Tree-F.Leaf span)

pub form_of-List : (text : List ℕ) (span : Span) (ts : List Tree) → form_of text (trees.List span ts) ≡ list_form span.from (forms_of text ts)
unfolding form_of
form_of-List text span ts =
    ap (fold-Tree Form (form_layer text)) (sym (trees.rolls-List span ts)) ∙ fold-roll-Tree Form (form_layer text) (Tree-F.List span ts)

pub place_of_leaf : (text : List ℕ) (span : Span) → (form_of text (trees.Leaf span)).at ≡ span.from
place_of_leaf text span = ap (λ (t : Form). t.at) (form_of-Leaf text span)

pub place_of_list : (text : List ℕ) (span : Span) (ts : List Tree) → (form_of text (trees.List span ts)).at ≡ span.from
place_of_list text span ts = ap (λ (t : Form). t.at) (form_of-List text span ts)

pub word_of_leaf : (text : List ℕ) (span : Span) → (form_of text (trees.Leaf span)).word ≡ Some (word_in text span)
word_of_leaf text span = ap (λ (t : Form). t.word) (form_of-Leaf text span)

pub word_of_list : (text : List ℕ) (span : Span) (ts : List Tree) → (form_of text (trees.List span ts)).word ≡ None
word_of_list text span ts = ap (λ (t : Form). t.word) (form_of-List text span ts)

pub same_length : (text : List ℕ) (ts : List Tree) → length (forms_of text ts) ≡ length ts
same_length text [] = refl
same_length text (t ∷ ts) = ap suc (same_length text ts)

pub extra_there : (text : List ℕ) (count : ℕ) (ts : List Tree) (d : Tree) → count < length ts → extra count (forms_of text ts) ≡ shape_at (form_of text (get_or ts count d)).at ∷ []
extra_there text count [] d h = absurd (omega arith)
extra_there text zero (t ∷ ts) d h = refl
extra_there text (suc count) (t ∷ ts) d h = extra_there text count ts d (omega arith)

pub atom_of_leaf : (text : List ℕ) (span : Span) → (form_of text (trees.Leaf span)).atom ≡ misfit Atom span.from
atom_of_leaf text span = ap (λ (t : Form). t.atom) (form_of-Leaf text span)

pub atom_of_list : (text : List ℕ) (span : Span) (ts : List Tree) → (form_of text (trees.List span ts)).atom ≡ atom_of true span.from (forms_of text ts)
atom_of_list text span ts = ap (λ (t : Form). t.atom) (form_of-List text span ts)

pub expr_of_leaf : (text : List ℕ) (span : Span) → (form_of text (trees.Leaf span)).expr ≡ leaf_expr span.from (word_in text span)
expr_of_leaf text span = ap (λ (t : Form). t.expr) (form_of-Leaf text span)

pub expr_of_list : (text : List ℕ) (span : Span) (ts : List Tree)
    → (form_of text (trees.List span ts)).expr ≡ expr_of span.from (head_word (forms_of text ts)) (forms_of text ts) (atom_of true span.from (forms_of text ts))
expr_of_list text span ts = ap (λ (t : Form). t.expr) (form_of-List text span ts)

pub part_there : (text : List ℕ) (n : ℕ) (ts : List Tree) (d : Tree) → n < length ts → drop n (forms_of text ts) ≡ form_of text (get_or ts n d) ∷ drop (n + 1) (forms_of text ts)
part_there text n [] d h = absurd (omega arith)
part_there text zero (t ∷ ts) d h = refl
part_there text (suc n) (t ∷ ts) d h =
    let e : suc n + 1 ≡ suc (n + 1) = omega arith in
    part_there text n ts d (omega arith) ∙ ap (λ (k : ℕ). form_of text (get_or ts n d) ∷ drop k (forms_of text (t ∷ ts))) (sym e)

pub part_past : (text : List ℕ) (n : ℕ) (ts : List Tree) → length ts ≤ n → drop n (forms_of text ts) ≡ []
part_past text zero [] h = refl
part_past text (suc n) [] h = refl
part_past text zero (t ∷ ts) h = absurd (omega arith)
part_past text (suc n) (t ∷ ts) h = part_past text n ts (omega arith)

-- the faults of the first of some forms
pub faults_there : (f : Form → List Fault) (ts us : List Form) (t : Form) → ts ≡ t ∷ us → flat_map f (take 1 ts) ≡ f t
faults_there f ts us t e = ap (λ (xs : List Form). flat_map f (take 1 xs)) e ∙ append-nil (f t)

pub cond_of_leaf : (text : List ℕ) (span : Span) → (form_of text (trees.Leaf span)).cond ≡ misfit Cond span.from
cond_of_leaf text span = ap (λ (t : Form). t.cond) (form_of-Leaf text span)

pub cond_of_list : (text : List ℕ) (span : Span) (ts : List Tree)
    → (form_of text (trees.List span ts)).cond ≡ measured_cond span.from (cond_of span.from (forms_of text ts) (atom_of true span.from (forms_of text ts)))
cond_of_list text span ts = ap (λ (t : Form). t.cond) (form_of-List text span ts)

pub effects_of_leaf : (text : List ℕ) (span : Span) → (form_of text (trees.Leaf span)).effects ≡ record { found = []; faults = shape_at span.from ∷ [] }
effects_of_leaf text span = ap (λ (t : Form). t.effects) (form_of-Leaf text span)

pub effects_of_list : (text : List ℕ) (span : Span) (ts : List Tree)
    → (form_of text (trees.List span ts)).effects ≡ effects_of span.from (forms_of text ts) (atom_of true span.from (forms_of text ts))
effects_of_list text span ts = ap (λ (t : Form). t.effects) (form_of-List text span ts)
