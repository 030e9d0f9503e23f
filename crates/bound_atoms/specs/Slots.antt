-- Arguments with their names looked up: a parameter by its place, an object by its number.
use Rattle.std.specs.Prelude.{ℕ, ◌&&◌, Bool, true, false, not, List, Option, Some, None, bytes_eq, nat_eq, slice_get, unwrap_or, if◌then◌else◌}
use Rattle.pddl_terms.specs.declared.names.Arg.{Arg}
use Rattle.pddl_terms.specs.declared.names.Arg.TheVariants.{Var, Obj}
use Rattle.pddl_terms.specs.declared.names.Typed.{Typed}
use Rattle.name_table.specs.Tables.{place_in}
use Rattle.name_table.specs.TypedLists.{names_of}
use Rattle.pddl_types.specs.declared.pairs.Pair.{Pair}
use Rattle.pddl_types.specs.Pairs.{objects_of, written_text}
use Rattle.bound_atoms.specs.declared.slots.Slot.{Slot}
use Rattle.bound_atoms.specs.declared.slots.Slot.TheVariants.{Parameter, Object, Unknown}
use Rattle.bound_atoms.specs.declared.same.SameSlots.{SameSlots}
use Rattle.bound_atoms.specs.declared.same.SameSlots.TheVariants.{Decided, Compared}

-- ---- one argument

abbrev pub object_slot : Option ℕ → Slot
object_slot (Some o) = Object o
object_slot None = Unknown

abbrev pub variable_slot : Option ℕ → Option ℕ → Slot
variable_slot (Some place) object = Parameter place
variable_slot None object = object_slot object

-- a variable stands for the first parameter of its name; one that is no parameter stands for itself, as an object's name does
abbrev pub slot_of : Pair → List Typed → Arg → Slot
slot_of p params (Var n) = variable_slot (place_in n.text (names_of params)) (place_in n.text (names_of (objects_of p)))
slot_of p params (Obj n) = object_slot (place_in n.text (names_of (objects_of p)))

abbrev pub is_object : Slot → Bool
is_object (Parameter place) = true
is_object (Object o) = true
is_object Unknown = false

-- the number of the object, where parameters are bound to these objects
abbrev pub slot_number : List ℕ → Slot → ℕ
slot_number os (Parameter place) = unwrap_or (slice_get os place) 0
slot_number os (Object o) = o
slot_number os Unknown = 0

-- ---- two arguments

-- texts that name no objects are compared as they are written
abbrev pub same_slots : Pair → List Typed → Arg → Arg → SameSlots
same_slots p params a b =
    if is_object (slot_of p params a) && is_object (slot_of p params b) then Compared (slot_of p params a) (slot_of p params b)
    else Decided ((not (is_object (slot_of p params a)) && not (is_object (slot_of p params b))) && bytes_eq (written_text a) (written_text b))

abbrev pub same_number : List ℕ → SameSlots → Bool
same_number os (Decided truth) = truth
same_number os (Compared a b) = nat_eq (slot_number os a) (slot_number os b)
