-- The leaves of a tree by themselves: numbers that are not taken, long names, and words that are refused.
use Rattle.std.specs.Prelude.{ℕ, ◌++◌, ◌&&◌, List, [], ◌∷◌, length, nat_lt, flat_map, is_some, if◌then◌else◌}
use Rattle.num_ends.specs.Names.{is_name}
use Rattle.sexp_text.specs.declared.trees.Tree.{Tree, Tree-F, fold-Tree}
use Rattle.sexp_text.specs.declared.trees.Tree.TheOpen as layer
use Rattle.pddl_terms.specs.declared.limits.What.TheVariants as what
use Rattle.pddl_terms.specs.declared.limits.TheConstants.{MAX_LETTERS}
use Rattle.pddl_trees.specs.declared.faults.Reason.TheVariants as reason
use Rattle.pddl_trees.specs.declared.faults.Fault.{Fault}
use Rattle.pddl_trees.specs.Faults.{fault_at}
use Rattle.pddl_trees.specs.Words.{word_in, is_among, is_number_word, number_in, unsupported_words, bare_name}

-- a name that is too long, and a word that the language refuses wherever it stands
abbrev pub word_faults : ℕ → List ℕ → List Fault
word_faults at w =
    (if is_name (bare_name w) && nat_lt MAX_LETTERS (length (bare_name w)) then fault_at at (reason.TooMany what.Letters) ∷ [] else [])
    ++ (if is_among w unsupported_words then fault_at at reason.Unsupported ∷ [] else [])

abbrev pub leaf_faults : ℕ → List ℕ → List Fault
leaf_faults at w =
    if is_number_word w then (if is_some (number_in w) then [] else fault_at at reason.Number ∷ []) else word_faults at w

abbrev pub leaves_layer : List ℕ → Tree-F (List Fault) → List Fault
leaves_layer text (layer.Leaf span) = leaf_faults span.from (word_in text span)
leaves_layer text (layer.List span faults) = flat_map (λ fs. fs) faults

-- the faults of a tree's leaves by themselves
unfoldable pub leaves_of : List ℕ → Tree → List Fault
leaves_of text = fold-Tree (List Fault) (leaves_layer text)

abbrev pub all_leaves : List ℕ → List Tree → List Fault
all_leaves text ts = flat_map (leaves_of text) ts
