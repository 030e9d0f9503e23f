-- What stands in front of the sections of a text: (define (WORD NAME) section ..)
use Rattle.std.specs.Prelude.{ℕ, ◌++◌, List, [], ◌∷◌, None, codes, if◌then◌else◌}
use Rattle.std.specs.Option.{option_map_or}
use Rattle.sexp_text.specs.declared.trees.Tree.{Tree}
use Rattle.pddl_terms.specs.declared.names.Name.{Name}
use Rattle.pddl_trees.specs.declared.faults.Fault.{Fault}
use Rattle.pddl_trees.specs.Forms.{Parsed, Form, shape_at, misfit, extra}
use Rattle.pddl_trees.specs.Trees.{forms_of, parts_of, place_of}
use Rattle.pddl_trees.specs.Names.{is_word, only_name}

abbrev pub definition_word_faults : List ℕ → List Form → List Fault
definition_word_faults word [] = []
definition_word_faults word (t ∷ ts) = if is_word word t then [] else shape_at t.at ∷ []

-- (WORD NAME)
abbrev pub definition_of : List ℕ → ℕ → List Form → Parsed Name
definition_of word at [] = misfit Name at
definition_of word at (t ∷ ts) =
    let n = only_name at ts in
    record { value = n.value; faults = (if is_word word t then [] else shape_at t.at ∷ []) ++ n.faults }

abbrev pub definition_in : List ℕ → List ℕ → Tree → Parsed Name
definition_in text word t =
    option_map_or (λ ts. definition_of word (place_of text t) (forms_of text ts)) (parts_of t) (misfit Name (place_of text t))

-- what a list at a position says in front of its sections
abbrev pub frame_of : List ℕ → List ℕ → ℕ → List Tree → Parsed Name
frame_of text word at [] = misfit Name at
frame_of text word at (t ∷ []) = record { value = None; faults = definition_word_faults (codes "define") (forms_of text (t ∷ [])) ++ shape_at at ∷ [] }
frame_of text word at (t ∷ u ∷ us) =
    let n = definition_in text word u in
    record { value = n.value; faults = definition_word_faults (codes "define") (forms_of text (t ∷ [])) ++ n.faults }

-- a text is one tree
abbrev pub further_trees : List ℕ → List Tree → List Fault
further_trees text ts = extra 1 (forms_of text ts)
