-- Lower values have lower equations.
use Rattle.std.proofs.Common.{◌≡◌, ℕ, zero, suc, ◌-◌, ◌<◌, ◌≤◌, List, [], ◌∷◌, length, get_or, arith, inl, inr}
use Rattle.std.proofs.lemmas.Bool.{cases_lt}
use Rattle.std.proofs.lemmas.List.{get_or-map}
use Rattle.ground_task.specs.declared.raw.GCond.{GCond}
use Rattle.ground_task.specs.declared.raw.Ground.{Ground}
use Rattle.simple_atoms.specs.declared.linear.TheConstants.{FAR}
use Rattle.subgoal.specs.Equations.{Atoms, condition_value, values_by}
use Rattle.subgoal.specs.Repeats.{AllRepeat}
use Rattle.subgoal.specs.Unmet.{at, by_equation, IsAbove}
use Rattle.subgoal.proofs.Uniqueness.{AreBounded, condition_falls, value_near}

bounded_everywhere : (k : ℕ) (v w : List ℕ) → length v ≡ length w → ((i : ℕ) → i < length v → at w i ≤ at v i) → AreBounded k v w
bounded_everywhere k [] [] e less = tt
bounded_everywhere k [] (m ∷ ms) e less = absurd (omega (arith, e))
bounded_everywhere k (n ∷ ns) [] e less = absurd (omega (arith, e))
bounded_everywhere k (n ∷ ns) (m ∷ ms) e less =
    let first : m ≤ n = less 0 (omega arith) in
    ((λ h. first), bounded_everywhere k ns ms (omega (arith, e)) (λ i h. less (suc i) (omega arith)))

module _ (atoms : Atoms) (repeat : AllRepeat atoms) (actions : List Ground) where
  -- lower values give lower ones
  pub lower : (v w : List ℕ) → length v ≡ length w → ((i : ℕ) → i < length v → at w i ≤ at v i)
      → (x : GCond) → condition_value atoms actions w x ≤ condition_value atoms actions v x
  lower v w e less x =
      elim (cases_lt (condition_value atoms actions v x) FAR) [
        | inl below ↦ condition_falls atoms repeat actions (FAR - 1) (omega arith) v w (bounded_everywhere (FAR - 1) v w e less) x (omega arith)
        | inr far ↦ omega (arith, value_near atoms actions w x)
      ]

  pub by_equation_is : (v : List ℕ) (i : ℕ) (a : Ground) → i < length actions → by_equation atoms actions v i ≡ condition_value atoms actions v (get_or actions i a).pre
  by_equation_is v i a h = get_or-map (λ (b : Ground). condition_value atoms actions v b.pre) actions i a 0 h

  pub lower_by_equation : (v w : List ℕ) → length v ≡ length w → ((i : ℕ) → i < length v → at w i ≤ at v i)
      → (those : List Ground) (i : ℕ) → i < length those → at (values_by atoms actions w those) i ≤ at (values_by atoms actions v those) i
  lower_by_equation v w e less [] i h = absurd (omega arith)
  lower_by_equation v w e less (a ∷ those) zero h = lower v w e less a.pre
  lower_by_equation v w e less (a ∷ those) (suc i) h = lower_by_equation v w e less those i (omega arith)

  -- the greatest values are no less than those of their equations
  pub above_far : (v : List ℕ) → length v ≡ length actions → ((i : ℕ) → i < length actions → at v i ≡ FAR) → IsAbove atoms actions v
  above_far v long far = record {
    as_many = long;
    above = λ i below. omega (arith, far i below, equation_near v actions i below);
  }
    where
      equation_near : (w : List ℕ) (those : List Ground) (i : ℕ) → i < length those → at (values_by atoms actions w those) i ≤ FAR
      equation_near w [] i h = absurd (omega arith)
      equation_near w (a ∷ those) zero h = value_near atoms actions w a.pre
      equation_near w (a ∷ those) (suc i) h = equation_near w those i (omega arith)
