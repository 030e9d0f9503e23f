-- The actions among sections are the schemas of a domain.
use Rattle.std.proofs.Common.{◌≡◌, ℕ, Bool, true, false, cond, List, [], ◌∷◌, ◌++◌, Option, None, refl, sym, ap, ap₂, ◌∙◌}
use Rattle.std.specs.Prelude.{flat_map, filter_map, if◌then◌else◌}
use Rattle.std.specs.List.{filter}
use Rattle.sexp_text.specs.declared.trees.Tree.{Tree}
use Rattle.pddl_terms.specs.declared.actions.Schema.{Schema}
use Rattle.pddl_trees.specs.declared.faults.Fault.{Fault}
use Rattle.pddl_trees.specs.Declarations.{one_item}
use Rattle.pddl_trees.specs.Actions.{schema_in, is_action, schemas_in}
use Rattle.pddl_actions.specs.internal.ActionLists.{action_faults, action_value, all_actions}
use Rattle.pddl_declarations.proofs.Gathering.{one_more}

abbrev schema_value : List ℕ → Tree → Option Schema
schema_value text s = (schema_in text s).value

abbrev schema_faults : List ℕ → Tree → List Fault
schema_faults text s = (schema_in text s).faults

-- the first section's value in front of the others', where it is an action or not
value_in_front : (text : List ℕ) (s : Tree) (ss : List Tree) (b : Bool)
    → one_item (if b then schema_value text s else None) ++ filter_map (schema_value text) (filter (is_action text) ss)
    ≡ filter_map (schema_value text) (cond b (s ∷ filter (is_action text) ss) (filter (is_action text) ss))
value_in_front text s ss true = sym (one_more (schema_value text) s (filter (is_action text) ss) (schema_value text s) refl)
value_in_front text s ss false = refl

values_are : (text : List ℕ) (ss : List Tree) → filter_map (action_value text) ss ≡ filter_map (schema_value text) (filter (is_action text) ss)
values_are text [] = refl
values_are text (s ∷ ss) =
    one_more (action_value text) s ss (action_value text s) refl
    ∙ ap (λ (rest : List Schema). one_item (action_value text s) ++ rest) (values_are text ss)
    ∙ value_in_front text s ss (is_action text s)

faults_in_front : (text : List ℕ) (s : Tree) (ss : List Tree) (b : Bool)
    → (if b then schema_faults text s else []) ++ flat_map (schema_faults text) (filter (is_action text) ss)
    ≡ flat_map (schema_faults text) (cond b (s ∷ filter (is_action text) ss) (filter (is_action text) ss))
faults_in_front text s ss true = refl
faults_in_front text s ss false = refl

faults_are : (text : List ℕ) (ss : List Tree) → flat_map (action_faults text) ss ≡ flat_map (schema_faults text) (filter (is_action text) ss)
faults_are text [] = refl
faults_are text (s ∷ ss) =
    ap (λ (rest : List Fault). action_faults text s ++ rest) (faults_are text ss) ∙ faults_in_front text s ss (is_action text s)

pub actions_are_schemas : (text : List ℕ) (ss : List Tree) → all_actions text ss ≡ schemas_in text ss
actions_are_schemas text ss = ap₂ (λ (items : List Schema) (faults : List Fault). record { items = items; faults = faults }) (values_are text ss) (faults_are text ss)
