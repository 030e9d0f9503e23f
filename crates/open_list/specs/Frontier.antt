-- Sets of pairs of an estimate and a node.
use Rattle.std.specs.Prelude.{◌≡◌, ℕ, ◌<◌, ◌≤◌, ◌⊎◌, IsTrue}
use Rattle.std.specs.declared.cmp.Ordering.{Ordering}
use Rattle.std.specs.Ordering.{nat_cmp, on, then_cmp}
use Rattle.std.specs.FinSet as set

-- by the estimate, then by the node
abbrev pub pair_cmp : ℕ × ℕ → ℕ × ℕ → Ordering
pair_cmp = then_cmp (on (λ p. p.0) nat_cmp) (on (λ p. p.1) nat_cmp)

abbrev pub Frontier : Type 0
Frontier = set.FinSet pair_cmp

-- the pair is in the set, and none in it stands before it
pub record IsLeast (s : Frontier) (p : ℕ × ℕ) : Type 0 where
  pub member : IsTrue (set.contains s p)
  pub first : (q : ℕ × ℕ) → IsTrue (set.contains s q) → (p.0 < q.0) ⊎ ((p.0 ≡ q.0) × (p.1 ≤ q.1))
