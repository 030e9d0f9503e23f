-- Lists of names with their types: what they declare, and their faults.
use Rattle.std.specs.Prelude.{ℕ, suc, ◌++◌, ◌==◌, Bool, true, false, List, [], ◌∷◌, Option, Some, None, map, length, codes, nat_lt, if◌then◌else◌}
use Rattle.std.specs.Option.{option_map_or}
use Rattle.num_ends.specs.Names.{is_name}
use Rattle.pddl_terms.specs.declared.names.Name.{Name}
use Rattle.pddl_terms.specs.declared.names.Typed.{Typed}
use Rattle.pddl_terms.specs.declared.limits.What.{What}
use Rattle.pddl_terms.specs.declared.limits.What.TheVariants.{Objects, Parameters}
use Rattle.pddl_terms.specs.declared.limits.TheConstants.{MAX_OBJECTS, MAX_PARAMETERS}
use Rattle.pddl_trees.specs.declared.faults.Reason.TheVariants.{TooMany}
use Rattle.pddl_trees.specs.declared.faults.Fault.{Fault}
use Rattle.pddl_trees.specs.Faults.{fault_at}
use Rattle.pddl_trees.specs.Words.{is_variable}
use Rattle.pddl_trees.specs.Forms.{Form, shape_at}
use Rattle.pddl_trees.specs.Names.{is_word, named_at, type_faults, type_name}

-- what a list declares, without what doesn't fit, and its faults
pub record Listed (A : Type 0) : Type 0 where
  pub items : List A
  pub faults : List Fault

-- what a typed list has: names or variables, and perhaps a limit on their number
pub record Kind : Type 0 where
  pub fits : List ℕ → Bool
  pub limit : Option (What × ℕ)

abbrev pub names_alone : Kind
names_alone = record { fits = is_name; limit = None }

abbrev pub objects_kind : Kind
objects_kind = record { fits = is_name; limit = Some (Objects, MAX_OBJECTS) }

abbrev pub parameters_kind : Kind
parameters_kind = record { fits = is_variable; limit = Some (Parameters, MAX_PARAMETERS) }

-- one more than the limit, where so many stand before
abbrev pub past_limit : Kind → ℕ → ℕ → List Fault
past_limit kind seen at = option_map_or (λ l. if seen == l.1 then fault_at at (TooMany l.0) ∷ [] else []) kind.limit []

-- a type that is left out is `object`
abbrev pub untyped : List Name → List Typed
untyped names = map (λ n. record { name = n; kind = named_at n.at (codes "object") }) names

abbrev pub typed_as : Name → List Name → List Typed
typed_as kind names = map (λ n. record { name = n; kind = kind }) names

abbrev pub after : {A : Type 0} → List A → List Fault → Listed A → Listed A
after items faults rest = record { items = items ++ rest.items; faults = faults ++ rest.faults }

abbrev pub fits_kind : Kind → Form → Bool
fits_kind kind t = option_map_or kind.fits t.word false

abbrev pub word_or_empty : Form → List ℕ
word_or_empty t = option_map_or (λ w. w) t.word []

-- a list at a position from here on: how many names it had, whether `-` stands before, and which names wait for a type
unfoldable pub typed_from : Kind → ℕ → ℕ → Bool → List Name → List Form → Listed Typed
typed_from kind at seen true waiting [] = record { items = untyped waiting; faults = shape_at at ∷ [] }
typed_from kind at seen false waiting [] = record { items = untyped waiting; faults = [] }
typed_from kind at seen true waiting (t ∷ ts) =
    after (option_map_or (λ n. typed_as n waiting) (type_name t) (untyped waiting)) (type_faults t) (typed_from kind at seen false [] ts)
typed_from kind at seen false waiting (t ∷ ts) =
    if is_word (codes "-") t then after [] (if nat_lt 0 (length waiting) then [] else shape_at t.at ∷ []) (typed_from kind at seen true waiting ts)
    else (if fits_kind kind t then after [] (past_limit kind seen t.at) (typed_from kind at (suc seen) false (waiting ++ named_at t.at (word_or_empty t) ∷ []) ts)
    else after [] (shape_at t.at ∷ []) (typed_from kind at seen false waiting ts))

-- the list whose bracket stands at a position
abbrev pub typed_list : Kind → ℕ → List Form → Listed Typed
typed_list kind at ts = typed_from kind at 0 false [] ts
