-- What a list says as a condition, with all its faults.
use Rattle.std.specs.Prelude.{◌||◌, ℕ, ◌++◌, ◌&&◌, Bool, true, false, List, [], ◌∷◌, Option, None, map, take, codes, bytes_eq, flat_map, option_map, if◌then◌else◌}
use Rattle.std.specs.Option.{option_map_or}
use Rattle.num_ends.specs.Names.{is_name}
use Rattle.pddl_terms.specs.declared.names.Atom.{Atom}
use Rattle.pddl_terms.specs.declared.conditions.Rel.{Rel}
use Rattle.pddl_terms.specs.declared.conditions.Rel.TheVariants as rel
use Rattle.pddl_terms.specs.declared.conditions.Cond.{Cond}
use Rattle.pddl_terms.specs.declared.conditions.Cond.TheVariants as condition
use Rattle.pddl_terms.specs.Heights.{condition_height}
use Rattle.pddl_trees.specs.Words.{is_variable, relation_of}
use Rattle.pddl_trees.specs.Forms.{Form, Parsed, all_of, both, extra, missing, sound}
use Rattle.pddl_trees.specs.Expressions.{too_high}
use Rattle.pddl_trees.specs.Atoms.{argument}

abbrev pub measured_cond : ℕ → Parsed Cond → Parsed Cond
measured_cond at c = record {
  value = c.value;
  faults = c.faults ++ option_map_or (λ x. too_high at (condition_height x)) c.value [];
}

abbrev pub all_conds : (List Cond → Cond) → List Form → Parsed Cond
all_conds make ts = record {
  value = option_map make (all_of (map (λ t. t.cond.value) ts));
  faults = flat_map (λ t. t.cond.faults) ts;
}

abbrev pub negated : List Form → Option Cond
negated [] = None
negated (t ∷ []) = option_map condition.Not t.cond.value
negated (t ∷ u ∷ us) = None

abbrev pub implied : List Form → Option Cond
implied [] = None
implied (t ∷ []) = None
implied (t ∷ u ∷ []) = both condition.Imply t.cond.value u.cond.value
implied (t ∷ u ∷ v ∷ vs) = None

-- a condition of so many conditions
abbrev pub cond_of_conds : ℕ → ℕ → Option Cond → List Form → Parsed Cond
cond_of_conds at count value ts = record {
  value = value;
  faults = flat_map (λ t. t.cond.faults) (take count ts) ++ missing at count ts ++ extra count ts;
}

abbrev pub is_argument : Form → Bool
is_argument t = option_map_or (λ w. is_name w || is_variable w) t.word false

abbrev pub is_equal : Rel → Bool
is_equal rel.Less = false
is_equal rel.LessEqual = false
is_equal rel.Equal = true
is_equal rel.GreaterEqual = false
is_equal rel.Greater = false

-- two names or variables stand first
abbrev pub of_objects : List Form → Bool
of_objects [] = false
of_objects (t ∷ []) = false
of_objects (t ∷ u ∷ us) = is_argument t && is_argument u

abbrev pub same_objects : List Form → Option Cond
same_objects [] = None
same_objects (t ∷ []) = None
same_objects (t ∷ u ∷ []) = both condition.Same (argument true t).value (argument true u).value
same_objects (t ∷ u ∷ v ∷ vs) = None

abbrev pub compared : Rel → List Form → Option Cond
compared r [] = None
compared r (t ∷ []) = None
compared r (t ∷ u ∷ []) = both (condition.Cmp r) t.expr.value u.expr.value
compared r (t ∷ u ∷ v ∷ vs) = None

-- `=` is about objects where both operands are names or variables; else numbers are compared
abbrev pub comparison : ℕ → Rel → List Form → Parsed Cond
comparison at r ts =
    if is_equal r && of_objects ts then record { value = same_objects ts; faults = extra 2 ts }
    else record {
      value = compared r ts;
      faults = flat_map (λ t. t.expr.faults) (take 2 ts) ++ missing at 2 ts ++ extra 2 ts;
    }

abbrev pub fact_of : Parsed Atom → Parsed Cond
fact_of a = record { value = option_map condition.Fact a.value; faults = a.faults }

abbrev pub headed_cond : ℕ → List ℕ → List Form → Parsed Atom → Parsed Cond
headed_cond at w ts a =
    if bytes_eq w (codes "and") then all_conds condition.And ts
    else (if bytes_eq w (codes "or") then all_conds condition.Or ts
    else (if bytes_eq w (codes "not") then cond_of_conds at 1 (negated ts) ts
    else (if bytes_eq w (codes "imply") then cond_of_conds at 2 (implied ts) ts
    else option_map_or (λ r. comparison at r ts) (relation_of w) (fact_of a))))

abbrev pub cond_of : ℕ → List Form → Parsed Atom → Parsed Cond
cond_of at [] a = sound Cond (condition.And [])
cond_of at (t ∷ ts) a = option_map_or (λ w. headed_cond at w ts a) t.word (fact_of a)
