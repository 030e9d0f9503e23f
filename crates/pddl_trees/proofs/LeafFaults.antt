-- The faults of leaves, tree by tree.
use Rattle.std.proofs.Common.{◌≡◌, ℕ, List, [], ◌∷◌, ◌++◌, Option, map, refl, sym, ap, ◌∙◌}
use Rattle.std.specs.Prelude.{flat_map, fold}
use Rattle.sexp_text.specs.declared.marks.Span.{Span}
use Rattle.sexp_text.specs.declared.trees.Tree.{Tree, Tree-F, fold-Tree, fold-roll-Tree}
use Rattle.sexp_text.specs.declared.trees.Tree.TheVariants as trees
use Rattle.pddl_trees.specs.declared.faults.Fault.{Fault}
use Rattle.pddl_trees.specs.Faults.{all_noted}
use Rattle.pddl_trees.specs.Words.{word_in}
use Rattle.pddl_trees.specs.Leaves.{all_leaves, leaf_faults, leaves_layer, leaves_of}
use Rattle.pddl_trees.proofs.Noted.{noted_append}

flat_of_maps : (text : List ℕ) (ts : List Tree) → flat_map (λ (fs : List Fault). fs) (map (leaves_of text) ts) ≡ all_leaves text ts
flat_of_maps text [] = refl
flat_of_maps text (t ∷ ts) = ap (λ (fs : List Fault). leaves_of text t ++ fs) (flat_of_maps text ts)

pub leaves_of_leaf : (text : List ℕ) (span : Span) → leaves_of text (trees.Leaf span) ≡ leaf_faults span.from (word_in text span)
unfolding leaves_of
leaves_of_leaf text span =
    ap (fold-Tree (List Fault) (leaves_layer text)) (sym (trees.rolls-Leaf span)) ∙ fold-roll-Tree (List Fault) (leaves_layer text) (Tree-F.Leaf span)

list_layers : (text : List ℕ) (span : Span) (ts : List Tree) → leaves_of text (trees.List span ts) ≡ flat_map (λ (fs : List Fault). fs) (map (leaves_of text) ts)
unfolding leaves_of
list_layers text span ts =
    ap (fold-Tree (List Fault) (leaves_layer text)) (sym (trees.rolls-List span ts)) ∙ fold-roll-Tree (List Fault) (leaves_layer text) (Tree-F.List span ts)

pub leaves_of_list : (text : List ℕ) (span : Span) (ts : List Tree) → leaves_of text (trees.List span ts) ≡ all_leaves text ts
leaves_of_list text span ts = list_layers text span ts ∙ flat_of_maps text ts

-- the first fault so far and those of a further tree's leaves
abbrev pub with_leaves_of : List ℕ → Option Fault → Tree → Option Fault
with_leaves_of text first t = all_noted first (leaves_of text t)

pub leaves_noted : (text : List ℕ) (first : Option Fault) (ts : List Tree) → fold (with_leaves_of text) first ts ≡ all_noted first (all_leaves text ts)
leaves_noted text first [] = refl
leaves_noted text first (t ∷ ts) =
    leaves_noted text (all_noted first (leaves_of text t)) ts ∙ sym (noted_append first (leaves_of text t) (all_leaves text ts))
