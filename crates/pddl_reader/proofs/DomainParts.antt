-- The parts of a domain, put together.
use Rattle.std.proofs.Common.{◌≡◌, ℕ, List, Option, codes, ap, ◌∙◌}
use Rattle.std.specs.Prelude.{option_map}
use Rattle.sexp_text.specs.declared.trees.Tree.{Tree}
use Rattle.pddl_terms.specs.declared.names.Name.{Name}
use Rattle.pddl_terms.specs.declared.names.Typed.{Typed}
use Rattle.pddl_terms.specs.declared.names.Sig.{Sig}
use Rattle.pddl_terms.specs.declared.actions.Schema.{Schema}
use Rattle.pddl_terms.specs.declared.files.Domain.{Domain}
use Rattle.pddl_trees.specs.Forms.{Parsed}
use Rattle.pddl_trees.specs.Domains.{domain_of_sections, functions_in, predicates_in, types_in}
use Rattle.pddl_trees.specs.Sections.{objects_in}
use Rattle.pddl_trees.specs.Actions.{schemas_in}

abbrev made : Option Name → List Typed → List Typed → List Sig → List Sig → List Schema → Option Domain
made name types constants predicates functions schemas =
    option_map (λ n. record { name = n; types = types; constants = constants; predicates = predicates; functions = functions; schemas = schemas }) name

pub same_parts : (text : List ℕ) (front : Parsed Name) (name : Option Name) (ss : List Tree) (types constants : List Typed) (predicates functions : List Sig) (schemas : List Schema)
    (found : Option Domain) → found ≡ made name types constants predicates functions schemas
    → types ≡ (types_in text ss).items → constants ≡ (objects_in text (codes ":constants") ss).items
    → predicates ≡ (predicates_in text ss).items → functions ≡ (functions_in text ss).items → schemas ≡ (schemas_in text ss).items
    → name ≡ front.value → found ≡ (domain_of_sections text front ss).value
same_parts text front name ss types constants predicates functions schemas found is t k p f s n =
    is ∙ ap (λ (x : List Typed). made name x constants predicates functions schemas) t
    ∙ ap (λ (x : List Typed). made name (types_in text ss).items x predicates functions schemas) k
    ∙ ap (λ (x : List Sig). made name (types_in text ss).items (objects_in text (codes ":constants") ss).items x functions schemas) p
    ∙ ap (λ (x : List Sig). made name (types_in text ss).items (objects_in text (codes ":constants") ss).items (predicates_in text ss).items x schemas) f
    ∙ ap (λ (x : List Schema). made name (types_in text ss).items (objects_in text (codes ":constants") ss).items (predicates_in text ss).items (functions_in text ss).items x) s
    ∙ ap (λ (x : Option Name). made x (types_in text ss).items (objects_in text (codes ":constants") ss).items (predicates_in text ss).items (functions_in text ss).items (schemas_in text ss).items) n
