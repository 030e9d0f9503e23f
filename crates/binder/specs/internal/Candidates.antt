-- The objects that may stand for the next parameter of a row, found by the object that another parameter is bound to.
use Rattle.std.specs.Prelude.{ℕ, ◌≡◌, ◌+◌, ◌≤◌, ◌<◌, ◌++◌, ◌&&◌, ◌||◌, IsTrue, Bool, true, List, [], ◌∷◌, Option, Some, filter, length, nat_eq, replicate, slice_get}
use Rattle.std.specs.List.{list_all}
use Rattle.pddl_types.specs.declared.pairs.Pair.{Pair}
use Rattle.binder.specs.declared.candidates.Candidates.{Candidates}
use Rattle.binder.specs.declared.checks.Slot.{Slot}
use Rattle.binder.specs.declared.checks.Slot.TheVariants.{Parameter, Object}
use Rattle.binder.specs.declared.checks.Test.{Test}
use Rattle.binder.specs.declared.checks.Test.TheVariants as test
use Rattle.binder.specs.declared.checks.Check.{Check}
use Rattle.binder.specs.internal.Checks.{extensions, holds, slot_value}

-- a slot names one of two parameters, or an object
abbrev pub is_of_two : ℕ → ℕ → Slot → Bool
is_of_two place last (Parameter i) = nat_eq i place || nat_eq i last
is_of_two place last (Object o) = true

abbrev pub is_test_of_two : ℕ → ℕ → Test → Bool
is_test_of_two place last (test.Fact predicate slots) = list_all (is_of_two place last) slots
is_test_of_two place last (test.Same a b) = is_of_two place last a && is_of_two place last b

-- a check waits for the parameter behind a row of a width, and besides it names no parameter but the one with a number
unfoldable pub Suits : Check → ℕ → ℕ → Type 0
Suits c place width = (c.level ≡ width + 1) × (place < width) × IsTrue (is_test_of_two place width c.test)

-- a row whose objects but the last are one
abbrev pub even_row : ℕ → ℕ → ℕ → List ℕ
even_row width value o = replicate width value ++ o ∷ []

-- the objects with which a check holds, once the other parameter that it names is bound to an object
abbrev pub passing : Pair → Check → ℕ → ℕ → List ℕ → List ℕ
passing p c width value objects = filter (λ o. holds p (even_row width value o) c) objects

-- the lists that are there are those of the objects with which a check holds
unfoldable pub ArePassing : Pair → Check → ℕ → List ℕ → List (Option (List ℕ)) → Type 0
ArePassing p c width objects lists = (value : ℕ) (found : List ℕ) → slice_get lists value ≡ Some (Some found) → found ≡ passing p c width value objects

-- a list that is there leaves the same rows as all objects
unfoldable pub Serves : Pair → List Check → List ℕ → ℕ → Candidates → Type 0
Serves p checks objects width c =
    (row found : List ℕ) → length row ≡ width → slice_get c.lists (slot_value row (Parameter c.place)) ≡ Some (Some found)
    → (extensions p checks found row ≡ extensions p checks objects row) × (length found ≤ length objects)
