-- Histories: lists of entries that only grow. An entry has the number of the worker that made it, or none, and what its event was, spelled in numbers.
use Rattle.std.specs.Prelude.{◌≡◌, ◌≢◌, ℕ, List, ◌++◌, All, Some}
use Rattle.turn_lock.specs.declared.view.Entry.{Entry}

abbrev pub Journal : Type 0
Journal = List Entry

-- `whole` begins with `part`, and each entry after it meets P
abbrev pub Continues : (Entry → Type 0) → Journal → Journal → Type 0
Continues P part whole = (more : Journal) × (whole ≡ part ++ more) × All P more

-- `whole` begins with `seen`, and no entry after it is this worker's
abbrev pub OthersAfter : ℕ → Journal → Journal → Type 0
OthersAfter worker seen whole = Continues (λ entry. entry.worker ≢ Some worker) seen whole

-- `whole` begins with `taken`, and each entry after it is this worker's
abbrev pub OwnAfter : ℕ → Journal → Journal → Type 0
OwnAfter worker taken whole = Continues (λ entry. entry.worker ≡ Some worker) taken whole

-- `whole` begins with `part`
abbrev pub Begins : Journal → Journal → Type 0
Begins part whole = (more : Journal) × (whole ≡ part ++ more)
