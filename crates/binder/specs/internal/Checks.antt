-- The static literals of an action as checks of rows of objects: names have become numbers, and each check knows how many parameters it waits for.
use Rattle.std.specs.Prelude.{ℕ, ◌+◌, ◌++◌, ◌&&◌, ◌||◌, max, Bool, not, List, [], ◌∷◌, map, filter, flat_map, length, nat_eq, slice_get, unwrap_or, if◌then◌else◌}
use Rattle.std.specs.Bool.{beq}
use Rattle.std.specs.Option.{option_map_or}
use Rattle.std.specs.List.{list_all}
use Rattle.pddl_terms.specs.declared.names.Arg.{Arg}
use Rattle.pddl_terms.specs.declared.names.Arg.TheVariants.{Var, Obj}
use Rattle.pddl_terms.specs.declared.names.Typed.{Typed}
use Rattle.name_table.specs.Tables.{place_in}
use Rattle.name_table.specs.TypedLists.{names_of}
use Rattle.pddl_types.specs.declared.pairs.Pair.{Pair}
use Rattle.pddl_types.specs.Pairs.{heads_of}
use Rattle.static_facts.specs.Atoms.{fact_atom, head_text, is_true_at_first}
use Rattle.static_facts.specs.Codes.{object_number}
use Rattle.static_facts.specs.Fixed.{is_fixed_predicate}
use Rattle.static_facts.specs.Literals.{is_bound, Literal}
use Rattle.static_facts.specs.Literals as literal
use Rattle.binder.specs.declared.checks.Slot.{Slot}
use Rattle.binder.specs.declared.checks.Slot.TheVariants.{Parameter, Object}
use Rattle.binder.specs.declared.checks.Test.{Test}
use Rattle.binder.specs.declared.checks.Test.TheVariants as test
use Rattle.binder.specs.declared.checks.Check.{Check}

-- ---- slots

-- how many parameters must be bound
abbrev pub slot_level : Slot → ℕ
slot_level (Parameter i) = i + 1
slot_level (Object o) = 0

abbrev pub slots_level : List Slot → ℕ
slots_level [] = 0
slots_level (s ∷ slots) = max (slot_level s) (slots_level slots)

-- the object in a slot, where parameters are bound to the objects of a row
abbrev pub slot_value : List ℕ → Slot → ℕ
slot_value row (Parameter i) = unwrap_or (slice_get row i) 0
slot_value row (Object o) = o

abbrev pub slot_of : Pair → List Typed → Arg → Slot
slot_of p params (Var n) = Parameter (unwrap_or (place_in n.text (names_of params)) 0)
slot_of p params (Obj n) = Object (object_number p n.text)

-- ---- checks

abbrev pub is_met : Pair → List ℕ → Test → Bool
is_met p row (test.Fact predicate slots) = is_true_at_first p (fact_atom p predicate (map (slot_value row) slots))
is_met p row (test.Same a b) = nat_eq (slot_value row a) (slot_value row b)

abbrev pub holds : Pair → List ℕ → Check → Bool
holds p row c = beq c.positive (is_met p row c.test)

-- the check of a fact of the predicate with a number
abbrev pub fact_check : Pair → List Typed → Bool → List Arg → ℕ → Check
fact_check p params positive args predicate =
    record {
      positive = positive;
      level = slots_level (map (slot_of p params) args);
      test = test.Fact predicate (map (slot_of p params) args);
    }

-- the check that two arguments are one object
abbrev pub same_check : Bool → Slot → Slot → Check
same_check positive a b = record { positive = positive; level = max (slot_level a) (slot_level b); test = test.Same a b }

abbrev pub fact_checks : Pair → List Typed → Bool → List Arg → ℕ → List Check
fact_checks p params positive args predicate =
    if is_fixed_predicate p (head_text p.domain.predicates predicate) && list_all (is_bound params) args then fact_check p params positive args predicate ∷ [] else []

-- the check of a literal that never changes, and none of another
abbrev pub check_of : Pair → List Typed → Literal → List Check
check_of p params (literal.fact positive a) = option_map_or (fact_checks p params positive a.args) (place_in a.head.text (heads_of p.domain.predicates)) []
check_of p params (literal.same positive a b) =
    if is_bound params a && is_bound params b then same_check positive (slot_of p params a) (slot_of p params b) ∷ [] else []

abbrev pub checks_of : Pair → List Typed → List Literal → List Check
checks_of p params literals = flat_map (check_of p params) literals

-- ---- rows

-- the checks that wait for exactly as many parameters as a row has hold
abbrev pub extends : Pair → List Check → List ℕ → Bool
extends p checks row = list_all (λ c. not (nat_eq c.level (length row)) || holds p row c) checks

-- the rows that go on from a row by one of some objects
abbrev pub extensions : Pair → List Check → List ℕ → List ℕ → List (List ℕ)
extensions p checks objects row = filter (extends p checks) (map (λ o. row ++ o ∷ []) objects)
