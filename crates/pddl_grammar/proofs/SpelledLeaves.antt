-- The leaves of a tree, and the faults that they have by themselves.
use Rattle.std.proofs.Common.{◌≡◌, ℕ, List, sym, ap, ◌∙◌, ap₂, [], ◌++◌, codes, ◌∷◌, false, inl, inr}
use Rattle.sexp_text.specs.declared.marks.Span.{Span}
use Rattle.sexp_text.specs.declared.trees.Tree.{Tree, Tree-F, fold-Tree, fold-roll-Tree}
use Rattle.sexp_text.specs.declared.trees.Tree.TheVariants as trees
use Rattle.pddl_trees.specs.declared.faults.Fault.{Fault}
use Rattle.pddl_trees.specs.Words.{word_in}
use Rattle.pddl_trees.specs.Leaves.{all_leaves, leaf_faults, leaves_layer, leaves_of}
use Rattle.pddl_grammar.specs.Trees.{IsWordAt, IsListAt, Begins}
use Rattle.pddl_trees.specs.Trees.{form_of}
use Rattle.pddl_trees.specs.Names.{is_headed}
use Rattle.std.proofs.lemmas.Bool.{cases_Bool}
use Rattle.pddl_grammar.proofs.Spelled.{flat_map-map, headed_begins, headed_word}

pub leaves_of-Leaf : (text : List ℕ) (span : Span) → leaves_of text (trees.Leaf span) ≡ leaf_faults span.from (word_in text span)
unfolding leaves_of
leaves_of-Leaf text span =
    ap (fold-Tree (List Fault) (leaves_layer text)) (sym (trees.rolls-Leaf span)) ∙ fold-roll-Tree (List Fault) (leaves_layer text) (Tree-F.Leaf span)

pub leaves_of-List : (text : List ℕ) (span : Span) (ts : List Tree) → leaves_of text (trees.List span ts) ≡ all_leaves text ts
unfolding leaves_of
leaves_of-List text span ts =
    ap (fold-Tree (List Fault) (leaves_layer text)) (sym (trees.rolls-List span ts)) ∙ fold-roll-Tree (List Fault) (leaves_layer text) (Tree-F.List span ts)
    ∙ flat_map-map (λ fs. fs) (fold-Tree (List Fault) (leaves_layer text)) ts

pub word_leaves : (text : List ℕ) (t : Tree) (at : ℕ) (w : List ℕ) → IsWordAt text t at w → leaves_of text t ≡ leaf_faults at w
word_leaves text t at w x = ap (leaves_of text) x.is_leaf ∙ leaves_of-Leaf text x.span ∙ ap₂ leaf_faults (sym x.place) (sym x.word)

pub list_leaves : (text : List ℕ) (t : Tree) (at : ℕ) (ts : List Tree) → IsListAt t at ts → leaves_of text t ≡ all_leaves text ts
list_leaves text t at ts x = ap (leaves_of text) x.is_list ∙ leaves_of-List text x.span ts

pub begun_leaves : (text : List ℕ) (t : Tree) (at : ℕ) (w : List ℕ) (ts : List Tree) (x : Begins text t at w ts) → leaves_of text t ≡ leaf_faults x.first_at w ++ all_leaves text ts
begun_leaves text t at w ts x =
    list_leaves text t at (x.first ∷ ts) x.list ∙ ap (λ (l : List Fault). l ++ all_leaves text ts) (word_leaves text x.first x.first_at w x.word)

-- a tree that begins with `either` has a leaf with a fault
pub no_either : (text : List ℕ) (t : Tree) → leaves_of text t ≡ [] → is_headed (codes "either") (form_of text t) ≡ false
no_either text t leaves =
    elim (cases_Bool (is_headed (codes "either") (form_of text t))) [
      | inl h ↦
          let found = headed_begins text t (codes "either") (headed_word (form_of text t) (codes "either") h) in
          absurd (cc (sym (begun_leaves text t (form_of text t).at (codes "either") found.0 found.1) ∙ leaves))
      | inr n ↦ n
    ]
