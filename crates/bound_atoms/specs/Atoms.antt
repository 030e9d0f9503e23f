-- Atoms with their names looked up, and what is known of them under a binding.
use Rattle.std.specs.Prelude.{ℕ, ◌&&◌, Bool, false, List, Option, None, length, map, nat_le, nat_lt, if◌then◌else◌}
use Rattle.std.specs.List.{list_all}
use Rattle.num_ends.specs.Decimal.{Decimal}
use Rattle.pddl_terms.specs.declared.names.Atom.{Atom}
use Rattle.pddl_terms.specs.declared.names.Typed.{Typed}
use Rattle.pddl_types.specs.declared.pairs.Pair.{Pair}
use Rattle.static_facts.specs.Atoms.{fact_atom, fluent_atom, is_true_at_first, value_at_first}
use Rattle.static_facts.specs.Codes.{code_of}
use Rattle.bound_atoms.specs.declared.atoms.AtomSlots.{AtomSlots}
use Rattle.bound_atoms.specs.declared.slots.Slot.{Slot}
use Rattle.bound_atoms.specs.declared.symbols.Symbol.{Symbol}
use Rattle.bound_atoms.specs.Slots.{is_object, slot_number, slot_of}
use Rattle.bound_atoms.specs.Symbols.{fact_symbol, fluent_symbol}

abbrev pub with_symbol : Symbol → List Slot → AtomSlots
with_symbol symbol slots = record { symbol = symbol; known = symbol.declared && list_all is_object slots; slots = slots }

-- a fact with its names looked up
abbrev pub fact_slots : Pair → List Typed → Atom → AtomSlots
fact_slots p params a = with_symbol (fact_symbol p a.head.text) (map (slot_of p params) a.args)

-- a fluent, likewise
abbrev pub fluent_slots : Pair → List Typed → Atom → AtomSlots
fluent_slots p params a = with_symbol (fluent_symbol p a.head.text) (map (slot_of p params) a.args)

-- ---- under a binding

-- the number of the object, and the last number that has a digit for a greater one
abbrev pub capped_number : List ℕ → Slot → ℕ
capped_number os s = if nat_lt (slot_number os s) 4094 then slot_number os s else 4094

-- the code of a symbol's number and of the objects in slots
unfoldable pub slots_code : List ℕ → ℕ → List Slot → ℕ
slots_code os symbol slots = code_of symbol (map (capped_number os) slots)

-- the names stand for something, and the arguments are few enough for an atom that is given at first
abbrev pub may_be_given : AtomSlots → Bool
may_be_given q = q.known && nat_le (length q.slots) 8

-- a fact is true at first
unfoldable pub slots_truth : Pair → List ℕ → AtomSlots → Bool
slots_truth p os q = if may_be_given q then is_true_at_first p (fact_atom p q.symbol.number (map (slot_number os) q.slots)) else false

-- the value of a fluent at first
unfoldable pub slots_value : Pair → List ℕ → AtomSlots → Option Decimal
slots_value p os q = if may_be_given q then value_at_first p (fluent_atom p q.symbol.number (map (slot_number os) q.slots)) else None
