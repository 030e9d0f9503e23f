-- The actions of a domain: what they say, and their faults.
use Rattle.std.specs.Prelude.{ℕ, ◌++◌, Bool, not, List, [], ◌∷◌, Option, Some, None, map, take, drop, codes, bytes_eq, flat_map, filter_map, is_some, if◌then◌else◌}
use Rattle.std.specs.Option.{option_map_or}
use Rattle.std.specs.List.{filter}
use Rattle.sexp_text.specs.declared.trees.Tree.{Tree}
use Rattle.pddl_terms.specs.declared.names.Name.{Name}
use Rattle.pddl_terms.specs.declared.names.Typed.{Typed}
use Rattle.pddl_terms.specs.declared.conditions.Cond.{Cond}
use Rattle.pddl_terms.specs.declared.conditions.Cond.TheVariants.{And}
use Rattle.pddl_terms.specs.declared.actions.Effect.{Effect}
use Rattle.pddl_terms.specs.declared.actions.Schema.{Schema}
use Rattle.pddl_terms.specs.declared.limits.What.TheVariants as what
use Rattle.pddl_trees.specs.declared.faults.Reason.TheVariants.{TooMany}
use Rattle.pddl_trees.specs.declared.faults.Fault.{Fault}
use Rattle.pddl_trees.specs.Faults.{fault_at}
use Rattle.pddl_trees.specs.Forms.{Parsed, Form, Effects, shape_at, misfit, sound, both}
use Rattle.pddl_trees.specs.Trees.{form_of, forms_of, parts_of, place_of}
use Rattle.pddl_trees.specs.TypedLists.{Listed, typed_list, parameters_kind}
use Rattle.pddl_trees.specs.Names.{is_headed, name_of}
use Rattle.pddl_terms.specs.declared.limits.TheConstants.{MAX_EFFECTS}
use Rattle.pddl_trees.specs.Sections.{content_of}

-- the parts of an action by their keywords
pub record Clauses : Type 0 where
  pub parameters : Option Tree
  pub precondition : Option Tree
  pub effect : Option Tree
  pub faults : List Fault

pub data Clause : Type 0 where
  Params : Clause
  Pre : Clause
  Eff : Clause

abbrev pub is_free : Clauses → Clause → Bool
is_free c Params = not (is_some c.parameters)
is_free c Pre = not (is_some c.precondition)
is_free c Eff = not (is_some c.effect)

abbrev pub clause_word : List ℕ → Option Clause
clause_word w =
    if bytes_eq w (codes ":parameters") then Some Params
    else (if bytes_eq w (codes ":precondition") then Some Pre
    else (if bytes_eq w (codes ":effect") then Some Eff else None))

-- a keyword that didn't stand before
abbrev pub clause_of : Clauses → Form → Option Clause
clause_of c t =
    option_map_or (λ w. option_map_or (λ k. if is_free c k then Some k else None) (clause_word w) None) t.word None

abbrev pub with_clause : Clause → Tree → Clauses → Clauses
with_clause Params body c = record { parameters = Some body; precondition = c.precondition; effect = c.effect; faults = c.faults }
with_clause Pre body c = record { parameters = c.parameters; precondition = Some body; effect = c.effect; faults = c.faults }
with_clause Eff body c = record { parameters = c.parameters; precondition = c.precondition; effect = Some body; faults = c.faults }

abbrev pub with_faults : List Fault → Clauses → Clauses
with_faults faults c = record { parameters = c.parameters; precondition = c.precondition; effect = c.effect; faults = c.faults ++ faults }

abbrev pub no_clauses : Clauses
no_clauses = record { parameters = None; precondition = None; effect = None; faults = [] }

-- the parts of an action at a position from here on, where some were found before: whether a keyword stands before
unfoldable pub clauses_from : List ℕ → ℕ → Option Clause → Clauses → List Tree → Clauses
clauses_from text at None c [] = c
clauses_from text at (Some k) c [] = with_faults (shape_at at ∷ []) c
clauses_from text at (Some k) c (t ∷ ts) = clauses_from text at None (with_clause k t c) ts
clauses_from text at None c (t ∷ ts) =
    option_map_or (λ k. clauses_from text at (Some k) c ts) (clause_of c (form_of text t))
    (clauses_from text at None (with_faults (shape_at (place_of text t) ∷ []) c) ts)

abbrev pub parameters_of : List ℕ → Option Tree → Listed Typed
parameters_of text None = record { items = []; faults = [] }
parameters_of text (Some t) =
    option_map_or (λ ts. typed_list parameters_kind (place_of text t) (forms_of text ts)) (parts_of t) (record { items = []; faults = shape_at (place_of text t) ∷ [] })

abbrev pub precondition_of : List ℕ → Option Tree → Parsed Cond
precondition_of text None = sound Cond (And [])
precondition_of text (Some t) = (form_of text t).cond

-- the first single effect past the limit
abbrev pub past_effects : List (ℕ × Option Effect) → List Fault
past_effects found = map (λ e. fault_at e.0 (TooMany what.Effects)) (take 1 (drop MAX_EFFECTS found))

abbrev pub effect_list : Effects → Listed Effect
effect_list e = record { items = filter_map (λ f. f.1) e.found; faults = e.faults ++ past_effects e.found }

abbrev pub effects_in : List ℕ → Option Tree → Listed Effect
effects_in text None = record { items = []; faults = [] }
effects_in text (Some t) = effect_list (form_of text t).effects

abbrev pub schema_of : Parsed Name → Listed Typed → Parsed Cond → Listed Effect → List Fault → Parsed Schema
schema_of name params pre effects faults = record {
  value = both (λ n c. record { name = n; params = params.items; pre = c; effects = effects.items }) name.value pre.value;
  faults = name.faults ++ faults ++ params.faults ++ pre.faults ++ effects.faults;
}

abbrev pub schema_of_clauses : List ℕ → Parsed Name → Clauses → Parsed Schema
schema_of_clauses text name c = schema_of name (parameters_of text c.parameters) (precondition_of text c.precondition) (effects_in text c.effect) c.faults

abbrev pub schema_parts : List ℕ → ℕ → List Tree → Parsed Schema
schema_parts text at [] = misfit Schema at
schema_parts text at (t ∷ ts) = schema_of_clauses text (name_of (form_of text t)) (clauses_from text at None no_clauses ts)

-- (:action NAME ..)
abbrev pub schema_in : List ℕ → Tree → Parsed Schema
schema_in text s = schema_parts text (place_of text s) (content_of s)

abbrev pub is_action : List ℕ → Tree → Bool
is_action text s = is_headed (codes ":action") (form_of text s)

abbrev pub actions_of : List ℕ → List Tree → List Tree
actions_of text ss = filter (is_action text) ss

abbrev pub schemas_in : List ℕ → List Tree → Listed Schema
schemas_in text ss = record {
  items = filter_map (λ s. (schema_in text s).value) (actions_of text ss);
  faults = flat_map (λ s. (schema_in text s).faults) (actions_of text ss);
}
