-- What the trees of a text say without a fault.
use Rattle.std.specs.Prelude.{ℕ, ◌≡◌, List, [], Some}
use Rattle.sexp_text.specs.Trees.{AreTrees}
use Rattle.sexp_text.specs.declared.trees.Tree.{Tree}
use Rattle.pddl_trees.specs.Forms.{Parsed}

-- these are the trees of the text, and they say this without a fault
pub record SaysWithoutFault (A : Type 0) (text : List ℕ) (trees : List Tree) (said : Parsed A) (value : A) : Type 0 where
  pub trees_of_text : AreTrees text trees
  pub no_fault : said.faults ≡ []
  pub value_is : said.value ≡ Some value
