-- The edges from a number stand together where edges are sorted by their first numbers.
use Rattle.std.proofs.Common.{◌≡◌, ℕ, true, false, List, inl, inr, take, drop, sym, subst, ◌-◌, arith, length}
use Rattle.std.specs.Prelude.{nat_le, nat_lt}
use Rattle.std.proofs.lemmas.Bool.{leb-true, ltb-false, leb-false, ltb-true}
use Rattle.std.specs.List.Sorted.{IsPartitionPoint}
use Rattle.pddl_types.specs.WellFormed.{Stands}
use Rattle.numbering.specs.internal.Closures.{AreFrom}
use Rattle.numbering.proofs.Lists.{dropped, each_dropped, each_taken, parted, rest_whole, taken}

pub grouped : (edges : List (ℕ × ℕ)) (from start stop : ℕ)
    → IsPartitionPoint (λ (e : ℕ × ℕ). nat_lt e.0 from ≡ true) (λ (e : ℕ × ℕ). nat_lt e.0 from ≡ false) edges start
    → IsPartitionPoint (λ (e : ℕ × ℕ). nat_le e.0 from ≡ true) (λ (e : ℕ × ℕ). nat_le e.0 from ≡ false) (drop start edges) stop
    → AreFrom edges from (take stop (drop start edges))
grouped edges from start stop first second = record { listed = listed; all = all }
  where
    listed : (e : ℕ × ℕ) → Stands e (take stop (drop start edges)) → Stands e edges × (e.0 ≡ from)
    listed e s =
        let later = taken e (drop start edges) stop s in
        let high = ltb-false e.0 from (each_dropped (λ (g : ℕ × ℕ). nat_lt g.0 from ≡ false) e edges start first.1 later) in
        let low = leb-true e.0 from (each_taken (λ (g : ℕ × ℕ). nat_le g.0 from ≡ true) e (drop start edges) stop second.0 s) in
        (dropped e edges start later, omega (arith, high, low))

    all : (e : ℕ × ℕ) → Stands e edges → e.0 ≡ from → Stands e (take stop (drop start edges))
    all e s is =
        elim (parted e edges start s) [
          | inl before ↦
              let low = ltb-true e.0 from (each_taken (λ (g : ℕ × ℕ). nat_lt g.0 from ≡ true) e edges start first.0 before) in absurd (omega (arith, low, is))
          | inr later ↦
              elim (parted e (drop start edges) stop later) [
                | inl within ↦ within
                | inr after ↦
                    let high = leb-false e.0 from (each_dropped (λ (g : ℕ × ℕ). nat_le g.0 from ≡ false) e (drop start edges) stop second.1 after) in
                    absurd (omega (arith, high, is))
              ]
        ]

-- the same where the rest is cut at its length
pub grouped_within : (edges : List (ℕ × ℕ)) (from start stop : ℕ)
    → IsPartitionPoint (λ (e : ℕ × ℕ). nat_lt e.0 from ≡ true) (λ (e : ℕ × ℕ). nat_lt e.0 from ≡ false) edges start
    → IsPartitionPoint (λ (e : ℕ × ℕ). nat_le e.0 from ≡ true) (λ (e : ℕ × ℕ). nat_le e.0 from ≡ false) (take (length edges - start) (drop start edges)) stop
    → AreFrom edges from (take stop (take (length edges - start) (drop start edges)))
grouped_within edges from start stop first second =
    let whole = rest_whole edges start in
    subst (λ (l : List (ℕ × ℕ)). AreFrom edges from (take stop l)) (sym whole)
    (grouped edges from start stop first
    (subst (λ (l : List (ℕ × ℕ)). IsPartitionPoint (λ (e : ℕ × ℕ). nat_le e.0 from ≡ true) (λ (e : ℕ × ℕ). nat_le e.0 from ≡ false) l stop) whole second))
