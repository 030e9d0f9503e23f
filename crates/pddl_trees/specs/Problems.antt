-- What a text says as a problem, with all its faults.
use Rattle.std.specs.Prelude.{ℕ, ◌++◌, List, [], ◌∷◌, take, drop, codes, flat_map, filter_map, is_some, if◌then◌else◌}
use Rattle.std.specs.Option.{option_map_or}
use Rattle.sexp_text.specs.declared.trees.Tree.{Tree}
use Rattle.pddl_terms.specs.declared.names.Name.{Name}
use Rattle.pddl_terms.specs.declared.files.Problem.{Problem}
use Rattle.pddl_trees.specs.declared.faults.Fault.{Fault}
use Rattle.pddl_trees.specs.Forms.{Parsed, shape_at, misfit, both}
use Rattle.pddl_trees.specs.Trees.{form_of, forms_of, parts_of, place_of}
use Rattle.pddl_trees.specs.Names.{is_headed, only_name}
use Rattle.pddl_trees.specs.Sections.{problem_sections, section_named, content_of, objects_in, requirements_faults, sections_of, word_and_repeat_faults}
use Rattle.pddl_trees.specs.Initial.{entries_in}
use Rattle.pddl_trees.specs.Goals.{goal_in, metric_in}
use Rattle.pddl_trees.specs.Leaves.{all_leaves, leaves_of}
use Rattle.pddl_trees.specs.Frames.{frame_of, further_trees}

-- the metric's tree isn't looked at
abbrev pub section_leaves : List ℕ → Tree → List Fault
section_leaves text s =
    if is_headed (codes ":metric") (form_of text s)
    then option_map_or (λ ts. all_leaves text (take 2 ts) ++ all_leaves text (drop 3 ts)) (parts_of s) []
    else leaves_of text s

-- a section that must be there, of a tree at this position
abbrev pub needed_section : List ℕ → ℕ → List ℕ → List Tree → List Fault
needed_section text at word ss = if is_some (section_named text word ss) then [] else shape_at at ∷ []

abbrev pub domain_name_faults : List ℕ → List Tree → List Fault
domain_name_faults text ss =
    option_map_or (λ s. (only_name (place_of text s) (forms_of text (content_of s))).faults) (section_named text (codes ":domain") ss) []

abbrev pub problem_of_sections : List ℕ → ℕ → Parsed Name → List Tree → Parsed Problem
problem_of_sections text at name ss = record {
  value = both (λ n goal. record {
    name = n;
    objects = (objects_in text (codes ":objects") ss).items;
    facts = filter_map (λ e. e.fact) (entries_in text ss);
    values = filter_map (λ e. e.value) (entries_in text ss);
    goal = goal;
  }) name.value (goal_in text ss).value;
  faults =
      name.faults ++ word_and_repeat_faults text problem_sections ss ++ requirements_faults text ss
      ++ needed_section text at (codes ":init") ss ++ needed_section text at (codes ":goal") ss
      ++ domain_name_faults text ss ++ (objects_in text (codes ":objects") ss).faults
      ++ flat_map (λ e. e.faults) (entries_in text ss) ++ (goal_in text ss).faults ++ metric_in text ss;
}

abbrev pub problem_parts : List ℕ → ℕ → List Tree → Parsed Problem
problem_parts text at [] = misfit Problem at
problem_parts text at (t ∷ ts) = problem_of_sections text at (frame_of text (codes "problem") at (t ∷ ts)) (sections_of (t ∷ ts))

abbrev pub problem_tree : List ℕ → Tree → Parsed Problem
problem_tree text t = option_map_or (problem_parts text (place_of text t)) (parts_of t) (misfit Problem (place_of text t))

abbrev pub problem_leaves : List ℕ → Tree → List Fault
problem_leaves text t =
    option_map_or (λ ts. all_leaves text (take 2 ts) ++ flat_map (section_leaves text) (sections_of ts)) (parts_of t) (leaves_of text t)

-- what the trees of a text say as a problem
abbrev pub problem_in : List ℕ → List Tree → Parsed Problem
problem_in text [] = misfit Problem 0
problem_in text (t ∷ ts) =
    let p = problem_tree text t in
    record { value = p.value; faults = problem_leaves text t ++ all_leaves text ts ++ further_trees text (t ∷ ts) ++ p.faults }
