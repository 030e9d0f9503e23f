-- What is closed under the edges of effects is what is reached.
use Rattle.std.proofs.Common.{◌≡◌, ℕ, List, inl, inr, sym, ap, subst}
use Rattle.std.specs.Prelude.{flat_map}
use Rattle.std.specs.List.Sorted.{IsPermutation}
use Rattle.std.proofs.lemmas.List.Sorted.{Contains-permutation, IsPermutation-sym}
use Rattle.pddl_types.specs.WellFormed.{Stands}
use Rattle.ground_task.specs.declared.raw.GCond.{GCond}
use Rattle.ground_task.specs.declared.raw.Ground.{Ground}
use Rattle.ground_task.specs.Valid.{right_side}
use Rattle.ground_meaning.specs.Tasks.{condition_fluents, fluents_in}
use Rattle.numbering.specs.Named.{IsRisingFrom}
use Rattle.numbering.specs.Reached.{AreRelevant, IsReached}
use Rattle.numbering.specs.internal.Closures.{IsClosure, IsFrom, action_edges, edges_to, effect_edges, starting_fluents}
use Rattle.numbering.proofs.Lists.{contained, from_flat, from_map, in_flat, in_map, left, right, split, standing}

module _ (actions : List Ground) (goal : GCond) where
  abbrev reads : Ground → List ℕ
  reads a = condition_fluents a.pre

  at_start : (x : ℕ) → Stands x (starting_fluents actions goal) → IsReached actions goal x
  at_start x s =
      elim (split x (condition_fluents goal) (flat_map reads actions) s) [
        | inl here ↦ IsReached.in_goal x here
        | inr there ↦ let found = from_flat reads actions x there in IsReached.in_precondition found.0 x found.1 found.2
      ]

  along : (y x : ℕ) → Stands (y, x) (flat_map action_edges actions) → IsReached actions goal y → IsReached actions goal x
  unfolding edges_to
  along y x edge h =
      let action = from_flat action_edges actions (y, x) edge in
      let effect = from_flat effect_edges action.0.nums (y, x) action.2 in
      let read = from_map (λ z. (effect.0.0, z)) (fluents_in (right_side effect.0.1)) (y, x) effect.2 in
      let target : effect.0.0 ≡ y = ap (λ (e : ℕ × ℕ). e.0) read.2 in
      let source : read.0 ≡ x = ap (λ (e : ℕ × ℕ). e.1) read.2 in
      IsReached.in_change action.0 effect.0.0 effect.0.1 x action.1 effect.1 (subst (IsReached actions goal) (sym target) h)
      (subst (λ (z : ℕ). Stands z (fluents_in (right_side effect.0.1))) source read.1)

  module _ (edges : List (ℕ × ℕ)) (same : IsPermutation (flat_map action_edges actions) edges) where
    there : (e : ℕ × ℕ) → Stands e (flat_map action_edges actions) → Stands e edges
    there e s = standing e edges (Contains-permutation (flat_map action_edges actions) edges e same (contained e (flat_map action_edges actions) s))

    back : (e : ℕ × ℕ) → Stands e edges → Stands e (flat_map action_edges actions)
    back e s =
        standing e (flat_map action_edges actions)
        (Contains-permutation edges (flat_map action_edges actions) e (IsPermutation-sym (flat_map action_edges actions) edges same) (contained e edges s))

    reached : (x : ℕ) → IsFrom (starting_fluents actions goal) edges x → IsReached actions goal x
    reached x (IsFrom.start y s) = at_start x s
    reached x (IsFrom.step y z h edge) = along y x (back (y, x) edge) (reached y h)

    closed : (x : ℕ) → IsReached actions goal x → IsFrom (starting_fluents actions goal) edges x
    unfolding edges_to
    closed x (IsReached.in_goal y s) = IsFrom.start x (left x (condition_fluents goal) (flat_map reads actions) s)
    closed x (IsReached.in_precondition a y known s) =
        IsFrom.start x (right x (condition_fluents goal) (flat_map reads actions) (in_flat reads actions a x known s))
    closed x (IsReached.in_change a y change z known effect h read) =
        IsFrom.step y x (closed y h)
        (there (y, x)
        (in_flat action_edges actions a (y, x) known
        (in_flat effect_edges a.nums (y, change) (y, x) effect (in_map (λ (u : ℕ). (y, u)) x (fluents_in (right_side change)) read))))

    pub are_relevant : (starts reached codes : List ℕ) → starts ≡ starting_fluents actions goal → IsClosure starts edges reached → IsRisingFrom reached codes
        → AreRelevant actions goal codes
    are_relevant starts keys codes is closure from =
        let whole = subst (λ (l : List ℕ). IsClosure l edges keys) is closure in
        record {
          rising = from.rising;
          exactly = λ x. (λ s. reached x ((whole x).0 ((from.exactly x).0 s)), λ h. (from.exactly x).1 ((whole x).1 (closed x h)));
        }
