-- Sections as actions, where they are.
use Rattle.std.specs.Prelude.{ℕ, List, [], Option, None, flat_map, filter_map, if◌then◌else◌}
use Rattle.sexp_text.specs.declared.trees.Tree.{Tree}
use Rattle.pddl_terms.specs.declared.actions.Schema.{Schema}
use Rattle.pddl_trees.specs.declared.faults.Fault.{Fault}
use Rattle.pddl_trees.specs.TypedLists.{Listed}
use Rattle.pddl_trees.specs.Actions.{schema_in, is_action}

abbrev pub action_value : List ℕ → Tree → Option Schema
action_value text s = if is_action text s then (schema_in text s).value else None

abbrev pub action_faults : List ℕ → Tree → List Fault
action_faults text s = if is_action text s then (schema_in text s).faults else []

-- the sections that are actions, one after another
abbrev pub all_actions : List ℕ → List Tree → Listed Schema
all_actions text ss = record { items = filter_map (action_value text) ss; faults = flat_map (action_faults text) ss }
