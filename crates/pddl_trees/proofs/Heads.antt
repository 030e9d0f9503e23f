-- The words that trees begin with.
use Rattle.std.proofs.Common.{◌≡◌, ℕ, List, None, ap}
use Rattle.sexp_text.specs.declared.marks.Span.{Span}
use Rattle.sexp_text.specs.declared.trees.Tree.{Tree}
use Rattle.sexp_text.specs.declared.trees.Tree.TheVariants as trees
use Rattle.pddl_trees.specs.Forms.{Form}
use Rattle.pddl_trees.specs.Trees.{form_of, forms_of, head_word}
use Rattle.pddl_trees.proofs.Trees.{form_of-Leaf, form_of-List}

pub head_of_leaf : (text : List ℕ) (span : Span) → (form_of text (trees.Leaf span)).head ≡ None
head_of_leaf text span = ap (λ (t : Form). t.head) (form_of-Leaf text span)

pub head_of_list : (text : List ℕ) (span : Span) (ts : List Tree) → (form_of text (trees.List span ts)).head ≡ head_word (forms_of text ts)
head_of_list text span ts = ap (λ (t : Form). t.head) (form_of-List text span ts)
