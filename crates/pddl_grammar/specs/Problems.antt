-- Which problem a text spells.
use Rattle.std.specs.Prelude.{ℕ, ◌≡◌, ◌≤◌, ◌++◌, List, [], ◌∷◌, length, codes, IsTrue}
use Rattle.num_ends.specs.Names.{is_name}
use Rattle.sexp_text.specs.Trees.{AreTrees}
use Rattle.sexp_text.specs.declared.trees.Tree.{Tree}
use Rattle.pddl_terms.specs.declared.names.Name.{Name}
use Rattle.pddl_terms.specs.declared.files.Problem.{Problem}
use Rattle.pddl_terms.specs.declared.limits.TheConstants.{MAX_OBJECTS}
use Rattle.pddl_trees.specs.Words.{is_among}
use Rattle.pddl_grammar.specs.Sections.{AreSections, HasContent, HasSection, IsFrame}
use Rattle.pddl_grammar.specs.Atoms.{SpellsName}
use Rattle.pddl_grammar.specs.Trees.{Begins, IsWordAt}
use Rattle.pddl_grammar.specs.Leaves.{HasFitLeaves, IsFitLeaf}
use Rattle.pddl_grammar.specs.Declarations.{IsKeyAt}
use Rattle.pddl_grammar.specs.Lists.{SpellsTyped}
use Rattle.pddl_grammar.specs.Conditions.{SpellsCond}
use Rattle.pddl_grammar.specs.InitialState.{SpellsEntries}
use Rattle.pddl_trees.specs.Sections.{problem_sections}

-- where a section of the domain's name is there, it has one name
abbrev pub NamesDomain : List ℕ → List Tree → Type 0
NamesDomain text ss = (parts : List Tree) → HasSection text (codes ":domain") ss parts → (n : Tree) × (name : Name) × (parts ≡ n ∷ []) × SpellsName text n name

-- where a metric is there, it has a direction and one tree
abbrev pub HasMetric : List ℕ → List Tree → Type 0
HasMetric text ss =
    (parts : List Tree) → HasSection text (codes ":metric") ss parts
    → (direction : Tree) × (measured : Tree) × (at : ℕ) × (word : List ℕ) × (parts ≡ direction ∷ measured ∷ [])
    × IsWordAt text direction at word × IsTrue (is_among word (codes "minimize" ∷ codes "maximize" ∷ []))

-- all leaves of a problem are fit but those of the metric's tree
abbrev pub HasFitSections : List ℕ → List Tree → Type 0
HasFitSections text ss =
    (front rest : List Tree) (s : Tree) → ss ≡ front ++ s ∷ rest
    → ((at : ℕ) (parts : List Tree) → Begins text s at (codes ":metric") parts → ⊥) → HasFitLeaves text s

pub record SpellsProblemTree (text : List ℕ) (t : Tree) (p : Problem) : Type 0 where
  pub sections : List Tree
  pub frame : IsFrame text (codes "problem") t p.name sections
  pub are_sections : AreSections text problem_sections sections
  pub requirements : List Tree
  pub requirements_there : HasContent text (codes ":requirements") sections requirements
  pub keys : (front rest : List Tree) (k : Tree) → requirements ≡ front ++ k ∷ rest → IsKeyAt text k
  pub domain_name : NamesDomain text sections
  pub objects : List Tree
  pub objects_there : HasContent text (codes ":objects") sections objects
  pub objects_are : SpellsTyped text is_name objects p.objects
  pub few_objects : length p.objects ≤ MAX_OBJECTS
  pub entries : List Tree
  pub entries_there : HasSection text (codes ":init") sections entries
  pub entries_are : SpellsEntries text entries p.facts p.values
  pub goal : Tree
  pub goal_there : HasSection text (codes ":goal") sections (goal ∷ [])
  pub goal_is : SpellsCond text goal p.goal
  pub metric : HasMetric text sections
  pub name_fits : IsFitLeaf p.name.text
  pub leaves : HasFitSections text sections

-- a text that is one tree, which spells a problem
pub record SpellsProblem (text : List ℕ) (p : Problem) : Type 0 where
  pub tree : Tree
  pub one_tree : AreTrees text (tree ∷ [])
  pub spelled : SpellsProblemTree text tree p
