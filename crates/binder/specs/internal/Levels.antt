-- Rows that grow by one parameter after another.
use Rattle.std.specs.Prelude.{ℕ, ◌+◌, ◌<◌, List, [], ◌∷◌, filter, flat_map, length}
use Rattle.pddl_terms.specs.declared.names.Typed.{Typed}
use Rattle.pddl_terms.specs.declared.limits.TheConstants.{MAX_PREFIXES}
use Rattle.pddl_types.specs.declared.pairs.Pair.{Pair}
use Rattle.static_facts.specs.Bindings.{fitting}
use Rattle.binder.specs.declared.checks.Check.{Check}
use Rattle.binder.specs.declared.levels.LevelFault.{LevelFault}
use Rattle.binder.specs.declared.levels.LevelFault.TheVariants as fault
use Rattle.binder.specs.internal.Checks.{extends, extensions}

-- the empty row, where the checks that wait for nothing hold
abbrev pub first_rows : Pair → List Check → List (List ℕ)
first_rows p checks = filter (extends p checks) ([] ∷ [])

-- the rows that go on from rows by the objects that fit a parameter
abbrev pub next_rows : Pair → List Check → Typed → List (List ℕ) → List (List ℕ)
next_rows p checks param rows = flat_map (extensions p checks (fitting p param)) rows

-- the rows after further parameters
abbrev pub grown : Pair → List Check → List Typed → List (List ℕ) → List (List ℕ)
grown p checks [] rows = rows
grown p checks (param ∷ params) rows = grown p checks params (next_rows p checks param rows)

-- how many rows there are after each of them
abbrev pub counted : Pair → List Check → List Typed → List (List ℕ) → ℕ
counted p checks [] rows = 0
counted p checks (param ∷ params) rows = length (next_rows p checks param rows) + counted p checks params (next_rows p checks param rows)

-- there are too many rows exactly past the limit; want of memory says nothing
abbrev pub IsOver : LevelFault → ℕ → Type 0
IsOver fault.NoMemory count = Unit {0}
IsOver fault.TooMany count = MAX_PREFIXES < count
