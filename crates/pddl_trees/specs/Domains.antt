-- What a text says as a domain, with all its faults.
use Rattle.std.specs.Prelude.{ℕ, ◌++◌, List, [], ◌∷◌, codes, option_map}
use Rattle.std.specs.Option.{option_map_or}
use Rattle.sexp_text.specs.declared.trees.Tree.{Tree}
use Rattle.pddl_terms.specs.declared.names.Name.{Name}
use Rattle.pddl_terms.specs.declared.names.Typed.{Typed}
use Rattle.pddl_terms.specs.declared.names.Sig.{Sig}
use Rattle.pddl_terms.specs.declared.files.Domain.{Domain}
use Rattle.pddl_trees.specs.Forms.{Parsed, misfit}
use Rattle.pddl_trees.specs.Trees.{forms_of, parts_of, place_of}
use Rattle.pddl_trees.specs.TypedLists.{Listed}
use Rattle.pddl_trees.specs.Declarations.{types_list, predicates_list, functions_list}
use Rattle.pddl_trees.specs.Sections.{domain_sections, content_named, place_named, objects_in, requirements_faults, sections_of, word_and_repeat_faults}
use Rattle.pddl_trees.specs.Actions.{schemas_in}
use Rattle.pddl_trees.specs.Frames.{frame_of, further_trees}
use Rattle.pddl_trees.specs.Leaves.{all_leaves}

abbrev pub types_in : List ℕ → List Tree → Listed Typed
types_in text ss = types_list (place_named text (codes ":types") ss) (forms_of text (content_named text (codes ":types") ss))

abbrev pub functions_in : List ℕ → List Tree → Listed Sig
functions_in text ss = functions_list text (place_named text (codes ":functions") ss) (content_named text (codes ":functions") ss)

abbrev pub predicates_in : List ℕ → List Tree → Listed Sig
predicates_in text ss = predicates_list text (content_named text (codes ":predicates") ss)

abbrev pub domain_of_sections : List ℕ → Parsed Name → List Tree → Parsed Domain
domain_of_sections text name ss = record {
  value = option_map (λ n. record {
    name = n;
    types = (types_in text ss).items;
    constants = (objects_in text (codes ":constants") ss).items;
    predicates = (predicates_in text ss).items;
    functions = (functions_in text ss).items;
    schemas = (schemas_in text ss).items;
  }) name.value;
  faults =
      name.faults ++ word_and_repeat_faults text domain_sections ss ++ requirements_faults text ss
      ++ (types_in text ss).faults ++ (objects_in text (codes ":constants") ss).faults ++ (predicates_in text ss).faults
      ++ (functions_in text ss).faults ++ (schemas_in text ss).faults;
}

abbrev pub domain_tree : List ℕ → Tree → Parsed Domain
domain_tree text t =
    option_map_or (λ ts. domain_of_sections text (frame_of text (codes "domain") (place_of text t) ts) (sections_of ts)) (parts_of t) (misfit Domain (place_of text t))

-- what the trees of a text say as a domain
abbrev pub domain_in : List ℕ → List Tree → Parsed Domain
domain_in text [] = misfit Domain 0
domain_in text (t ∷ ts) =
    let d = domain_tree text t in
    record { value = d.value; faults = all_leaves text (t ∷ ts) ++ further_trees text (t ∷ ts) ++ d.faults }
