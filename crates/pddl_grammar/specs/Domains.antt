-- Which domain a text spells.
use Rattle.std.specs.Prelude.{ℕ, ◌≡◌, ◌≤◌, ◌++◌, List, [], ◌∷◌, length, codes}
use Rattle.num_ends.specs.Names.{is_name}
use Rattle.sexp_text.specs.Trees.{AreTrees}
use Rattle.sexp_text.specs.declared.trees.Tree.{Tree}
use Rattle.pddl_terms.specs.declared.files.Domain.{Domain}
use Rattle.pddl_terms.specs.declared.limits.TheConstants.{MAX_OBJECTS}
use Rattle.pddl_grammar.specs.Declarations.{IsKeyAt, SpellsFunctions, SpellsSig, SpellsTypes}
use Rattle.pddl_grammar.specs.Sections.{AreSections, HasContent, IsFrame}
use Rattle.pddl_grammar.specs.Trees.{Each}
use Rattle.pddl_grammar.specs.Leaves.{HasFitLeaves}
use Rattle.pddl_grammar.specs.Lists.{SpellsTyped}
use Rattle.pddl_grammar.specs.Actions.{HasActions}
use Rattle.pddl_trees.specs.Sections.{domain_sections}

pub record SpellsDomainTree (text : List ℕ) (t : Tree) (d : Domain) : Type 0 where
  pub sections : List Tree
  pub frame : IsFrame text (codes "domain") t d.name sections
  pub are_sections : AreSections text domain_sections sections
  pub requirements : List Tree
  pub requirements_there : HasContent text (codes ":requirements") sections requirements
  pub keys : (front rest : List Tree) (k : Tree) → requirements ≡ front ++ k ∷ rest → IsKeyAt text k
  pub types : List Tree
  pub types_there : HasContent text (codes ":types") sections types
  pub types_are : SpellsTypes text types d.types
  pub constants : List Tree
  pub constants_there : HasContent text (codes ":constants") sections constants
  pub constants_are : SpellsTyped text is_name constants d.constants
  pub few_constants : length d.constants ≤ MAX_OBJECTS
  pub predicates : List Tree
  pub predicates_there : HasContent text (codes ":predicates") sections predicates
  pub predicates_are : Each (SpellsSig text) predicates d.predicates
  pub functions : List Tree
  pub functions_there : HasContent text (codes ":functions") sections functions
  pub functions_are : SpellsFunctions text functions d.functions
  pub schemas : HasActions text sections d.schemas
  pub leaves : HasFitLeaves text t

-- a text that is one tree, which spells a domain
pub record SpellsDomain (text : List ℕ) (d : Domain) : Type 0 where
  pub tree : Tree
  pub one_tree : AreTrees text (tree ∷ [])
  pub spelled : SpellsDomainTree text tree d
