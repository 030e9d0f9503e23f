-- The goal and the metric of a problem: what they say, and their faults.
use Rattle.std.specs.Prelude.{◌||◌, ℕ, ◌++◌, Bool, List, [], ◌∷◌, None, take, codes, flat_map, if◌then◌else◌}
use Rattle.std.specs.Option.{option_map_or}
use Rattle.sexp_text.specs.declared.trees.Tree.{Tree}
use Rattle.pddl_terms.specs.declared.conditions.Cond.{Cond}
use Rattle.pddl_trees.specs.declared.faults.Fault.{Fault}
use Rattle.pddl_trees.specs.Forms.{Parsed, Form, shape_at, misfit, missing, extra}
use Rattle.pddl_trees.specs.Trees.{forms_of, place_of}
use Rattle.pddl_trees.specs.Names.{is_word}
use Rattle.pddl_trees.specs.Sections.{section_named, content_of}

-- one condition
abbrev pub goal_of : ℕ → List Form → Parsed Cond
goal_of at [] = misfit Cond at
goal_of at (t ∷ ts) = record { value = t.cond.value; faults = t.cond.faults ++ extra 1 (t ∷ ts) }

abbrev pub is_direction : Form → Bool
is_direction t = is_word (codes "minimize") t || is_word (codes "maximize") t

-- `minimize` or `maximize`, and a tree that isn't looked at
abbrev pub metric_faults : ℕ → List Form → List Fault
metric_faults at ts = flat_map (λ t. if is_direction t then [] else shape_at t.at ∷ []) (take 1 ts) ++ missing at 2 ts ++ extra 2 ts

abbrev pub goal_in : List ℕ → List Tree → Parsed Cond
goal_in text ss =
    option_map_or (λ s. goal_of (place_of text s) (forms_of text (content_of s))) (section_named text (codes ":goal") ss) (record { value = None; faults = [] })

abbrev pub metric_in : List ℕ → List Tree → List Fault
metric_in text ss =
    option_map_or (λ s. metric_faults (place_of text s) (forms_of text (content_of s))) (section_named text (codes ":metric") ss) []
