-- The sections of a domain or a problem by their words.
use Rattle.std.specs.Prelude.{ℕ, ◌++◌, not, List, [], ◌∷◌, Option, Some, None, map, drop, codes, bytes_eq, flat_map, if◌then◌else◌}
use Rattle.std.specs.Option.{option_map_or}
use Rattle.std.specs.List.{filter}
use Rattle.sexp_text.specs.declared.trees.Tree.{Tree}
use Rattle.pddl_terms.specs.declared.names.Typed.{Typed}
use Rattle.pddl_trees.specs.declared.faults.Reason.TheVariants.{Unsupported}
use Rattle.pddl_trees.specs.declared.faults.Fault.{Fault}
use Rattle.pddl_trees.specs.Faults.{fault_at}
use Rattle.pddl_trees.specs.Words.{is_among, is_key}
use Rattle.pddl_trees.specs.Forms.{Form, shape_at}
use Rattle.pddl_trees.specs.Trees.{form_of, forms_of, parts_of, place_of}
use Rattle.pddl_trees.specs.TypedLists.{Listed, typed_list, objects_kind}
use Rattle.pddl_trees.specs.Names.{is_headed}
use Rattle.pddl_trees.specs.Declarations.{requirement_faults}

abbrev pub domain_sections : List (List ℕ)
domain_sections = codes ":requirements" ∷ codes ":types" ∷ codes ":constants" ∷ codes ":predicates" ∷ codes ":functions" ∷ codes ":action" ∷ []

abbrev pub problem_sections : List (List ℕ)
problem_sections = codes ":domain" ∷ codes ":requirements" ∷ codes ":objects" ∷ codes ":init" ∷ codes ":goal" ∷ codes ":metric" ∷ []

abbrev pub section_word_faults : List (List ℕ) → ℕ → List ℕ → List Fault
section_word_faults known at w = if is_key w then (if is_among w known then [] else fault_at at Unsupported ∷ []) else shape_at at ∷ []

abbrev pub section_front_faults : List (List ℕ) → ℕ → List Form → List Fault
section_front_faults known at [] = shape_at at ∷ []
section_front_faults known at (t ∷ ts) = option_map_or (section_word_faults known t.at) t.word (shape_at t.at ∷ [])

-- a section is a list that begins with a word of these
abbrev pub section_faults : List ℕ → List (List ℕ) → Tree → List Fault
section_faults text known s =
    option_map_or (λ ts. section_front_faults known (place_of text s) (forms_of text ts)) (parts_of s) (shape_at (place_of text s) ∷ [])

-- the sections of a name but for the first
abbrev pub repeats_of : List ℕ → List Tree → List ℕ → List Fault
repeats_of text ss word = map (λ s. shape_at (place_of text s)) (drop 1 (filter (λ s. is_headed word (form_of text s)) ss))

-- a section of one name stands once, but for actions
abbrev pub repeated_sections : List ℕ → List (List ℕ) → List Tree → List Fault
repeated_sections text words ss = flat_map (repeats_of text ss) (filter (λ w. not (bytes_eq w (codes ":action"))) words)

-- the first section of a name
abbrev pub section_named : List ℕ → List ℕ → List Tree → Option Tree
section_named text word [] = None
section_named text word (s ∷ ss) = if is_headed word (form_of text s) then Some s else section_named text word ss

-- what stands in a section behind its word
abbrev pub content_of : Tree → List Tree
content_of s = option_map_or (λ ts. drop 1 ts) (parts_of s) []

abbrev pub content_named : List ℕ → List ℕ → List Tree → List Tree
content_named text word ss = option_map_or content_of (section_named text word ss) []

abbrev pub place_named : List ℕ → List ℕ → List Tree → ℕ
place_named text word ss = option_map_or (place_of text) (section_named text word ss) 0

-- the constants or objects of the section of this name
abbrev pub objects_in : List ℕ → List ℕ → List Tree → Listed Typed
objects_in text word ss = typed_list objects_kind (place_named text word ss) (forms_of text (content_named text word ss))

abbrev pub requirements_faults : List ℕ → List Tree → List Fault
requirements_faults text ss = flat_map requirement_faults (forms_of text (content_named text (codes ":requirements") ss))

-- what is no section of these names, or stands a second time
abbrev pub word_and_repeat_faults : List ℕ → List (List ℕ) → List Tree → List Fault
word_and_repeat_faults text known ss = flat_map (section_faults text known) ss ++ repeated_sections text known ss

-- the parts of a tree behind the first two
abbrev pub sections_of : List Tree → List Tree
sections_of ts = drop 2 ts
