-- Marks on the facts that one action changes.
use Rattle.std.specs.Prelude.{ℕ, ◌≡◌, ◌<◌, ◌≤◌, ◌==◌, List, length, slice_index}
use Rattle.std.specs.Set.{is_member}
use Rattle.supporter_count.specs.declared.marks.Marks.{Marks}

-- no stamp is younger than the current one
abbrev pub AreOld : Marks → Type 0
AreOld m = (f : ℕ) → slice_index m.stamps.items f ≤ m.current

-- the facts with the current stamp are these
pub record AreMarked (m : Marks) (facts : List ℕ) : Type 0 where
  pub old : AreOld m
  pub marked : (f : ℕ) → f < length m.stamps.items → (slice_index m.stamps.items f == m.current) ≡ is_member (λ f g. f == g) facts f
