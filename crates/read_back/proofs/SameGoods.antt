-- A certificate is good exactly where the one is whose ends have the fewest places.
use Rattle.std.proofs.Common.{◌≡◌, ℕ, zero, suc, List, [], ◌∷◌, Some, map, refl, sym, ap, subst, inl, inr}
use Rattle.ground_task.specs.States.{StateValue}
use Rattle.ground_task.specs.Tasks.{TaskValue}
use Rattle.box_model.specs.Boxes.{Contains}
use Rattle.box_model.specs.Least.{IsDead}
use Rattle.box_model.specs.declared.state_box.StateBox.{StateBox}
use Rattle.dead_ends.specs.Certificates.{IsCovered, IsGood}
use Rattle.dead_ends.specs.Reachable.{initial_state}
use Rattle.search_runs.specs.Spaces.{IsAt}
use Rattle.read_back.specs.Certificates.{trimmed_box}
use Rattle.read_back.proofs.SameBoxes.{contains_before, dead_before, same_contains, same_dead}

pub box_before : (boxes : List StateBox) (n : ℕ) (box : StateBox) → IsAt (map trimmed_box boxes) n box → (b : StateBox) × IsAt boxes n b × (box ≡ trimmed_box b)
box_before [] n box at = cc
box_before (b ∷ boxes) zero box at = (b, refl, cc)
box_before (b ∷ boxes) (suc n) box at = box_before boxes n box at

box_behind : (boxes : List StateBox) (n : ℕ) (b : StateBox) → IsAt boxes n b → IsAt (map trimmed_box boxes) n (trimmed_box b)
box_behind [] n b at = cc
box_behind (c ∷ boxes) zero b at = let same : c ≡ b = cc in ap (λ (x : StateBox). Some (trimmed_box x)) same
box_behind (c ∷ boxes) (suc n) b at = box_behind boxes n b at

module _ (t : TaskValue) (boxes : List StateBox) (states : List StateValue) where
  pub covered_trimmed : (s : StateValue) → IsCovered t boxes states s → IsCovered t (map trimmed_box boxes) states s
  covered_trimmed s (inl listed) = inl listed
  covered_trimmed s (inr (b, box, at, contains)) = inr (b, trimmed_box box, box_behind boxes b box at, same_contains t.places box s contains)

  covered_before : (s : StateValue) → IsCovered t (map trimmed_box boxes) states s → IsCovered t boxes states s
  covered_before s (inl listed) = inl listed
  covered_before s (inr (b, box, at, contains)) =
      let (c, there, is) = box_before boxes b box at in
      inr (b, c, there, contains_before t.places c s (subst (λ (d : StateBox). Contains t.places d s) is contains))

  pub good_too : IsGood t boxes states → IsGood t (map trimmed_box boxes) states
  good_too is = record {
    dead = λ b box at.
        let (c, there, same) = box_before boxes b box at in
        subst (IsDead t) (sym same) (same_dead t c (is.dead b c there));
    misses = is.misses;
    steps = λ s next a listed leads. covered_trimmed next (is.steps s next a listed leads);
    initial = covered_trimmed (initial_state t) is.initial;
  }

  pub good_before : IsGood t (map trimmed_box boxes) states → IsGood t boxes states
  good_before is = record {
    dead = λ b box at. dead_before t box (is.dead b (trimmed_box box) (box_behind boxes b box at));
    misses = is.misses;
    steps = λ s next a listed leads. covered_before next (is.steps s next a listed leads);
    initial = covered_before (initial_state t) is.initial;
  }
