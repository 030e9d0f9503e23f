-- The faults of declarations: names that stand again, types that aren't declared, and types that are their own ancestors.
use Rattle.std.specs.Prelude.{ℕ, ◌++◌, Bool, not, List, [], ◌∷◌, flat_map, if◌then◌else◌}
use Rattle.pddl_terms.specs.declared.names.Name.{Name}
use Rattle.pddl_terms.specs.declared.names.Typed.{Typed}
use Rattle.pddl_terms.specs.declared.names.Sig.{Sig}
use Rattle.pddl_terms.specs.declared.files.Domain.{Domain}
use Rattle.name_table.specs.Tables.{is_text_among, with_text}
use Rattle.name_table.specs.TypedLists.{names_of}
use Rattle.type_order.specs.Types.{top_type, is_declared, descends}
use Rattle.pddl_types.specs.declared.faults.Side.{Side}
use Rattle.pddl_types.specs.declared.faults.Side.TheVariants as side
use Rattle.pddl_types.specs.declared.faults.CheckKind.TheVariants.{UnknownType, Duplicate, CyclicType}
use Rattle.pddl_types.specs.declared.faults.Fault.{Fault}
use Rattle.pddl_types.specs.Faults.{check_fault}
use Rattle.pddl_types.specs.Pairs.{heads_of}
use Rattle.pddl_types.specs.Meanings.{functions_first}

-- a fault where a test fails
abbrev pub unless : Bool → Fault → List Fault
unless test fault = if test then [] else fault ∷ []

-- ---- names that stand again

abbrev pub with_names : List (List ℕ) → List Name → List (List ℕ)
with_names seen [] = seen
with_names seen (n ∷ ns) = with_names (with_text seen n.text) ns

-- the names that stand again, where some were seen before
abbrev pub repeated : Side → List (List ℕ) → List Name → List Fault
repeated side seen [] = []
repeated side seen (n ∷ ns) = unless (not (is_text_among n.text seen)) (check_fault side Duplicate n) ++ repeated side (with_text seen n.text) ns

-- the names of two sections that share one space of names
abbrev pub repeated_in_both : List Sig → List Sig → List Fault
repeated_in_both first second = repeated side.Domain [] (heads_of first) ++ repeated side.Domain (with_names [] (heads_of first)) (heads_of second)

-- the predicates and functions that are declared again, in either section
abbrev pub repeated_heads : Domain → List Fault
repeated_heads d =
    if functions_first d.predicates d.functions then repeated_in_both d.functions d.predicates else repeated_in_both d.predicates d.functions

-- ---- types

-- the types of a typed list that aren't declared
abbrev pub unknown_types : List Typed → Side → List Typed → List Fault
unknown_types types side items = flat_map (λ t. unless (is_declared types t.kind.text) (check_fault side UnknownType t.kind)) items

-- the types that are their own ancestors
abbrev pub cyclic_types : List Typed → List Typed → List Fault
cyclic_types types items = flat_map (λ t. unless (not (descends types t.name.text t.name.text)) (check_fault side.Domain CyclicType t.name)) items

abbrev pub types_faults : List Typed → List Fault
types_faults types = repeated side.Domain (top_type ∷ []) (names_of types) ++ unknown_types types side.Domain types ++ cyclic_types types types

-- ---- typed lists

-- a typed list of names, where some were seen before
abbrev pub typed_faults : List Typed → Side → List (List ℕ) → List Typed → List Fault
typed_faults types side seen items = unknown_types types side items ++ repeated side seen (names_of items)

-- the variables of one list
abbrev pub parameter_faults : List Typed → List Typed → List Fault
parameter_faults types params = typed_faults types side.Domain [] params

-- constants and objects share one space of names
abbrev pub constant_faults : Domain → List Fault
constant_faults d = typed_faults d.types side.Domain [] d.constants

abbrev pub object_faults : Domain → List Typed → List Fault
object_faults d objects = typed_faults d.types side.Problem (with_names [] (names_of d.constants)) objects

abbrev pub signature_faults : List Typed → List Sig → List Fault
signature_faults types sigs = flat_map (λ s. parameter_faults types s.params) sigs

-- ---- what a domain declares, but for its actions

unfoldable pub declaration_faults : Domain → List Fault
declaration_faults d =
    types_faults d.types ++ constant_faults d ++ repeated_heads d ++ signature_faults d.types d.predicates ++ signature_faults d.types d.functions
