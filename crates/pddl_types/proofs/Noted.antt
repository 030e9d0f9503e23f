-- The first of the faults, with_fault one after another.
use Rattle.std.proofs.Common.{◌≡◌, ◌≤◌, ℕ, List, [], ◌∷◌, ◌++◌, Option, drop, length, refl, sym, ◌∙◌}
use Rattle.std.specs.Prelude.{fold}
use Rattle.std.proofs.lemmas.List.{at_drop_all}
use Rattle.pddl_types.specs.declared.faults.Fault.{Fault}
use Rattle.pddl_types.specs.Faults.{with_fault, with_faults}

-- the faults of two parts are with_fault one part after the other
pub noted_append : (first : Option Fault) (xs ys : List Fault) → with_faults first (xs ++ ys) ≡ with_faults (with_faults first xs) ys
noted_append first [] ys = refl
noted_append first (x ∷ xs) ys = noted_append (with_fault first x) xs ys

-- a walk over a list has come to its end
pub walked : {S X : Type 0} (step : S → X → S) (now all : S) (xs : List X) (i : ℕ) → length xs ≤ i → fold step now (drop i xs) ≡ all → now ≡ all
walked step now all xs i past same = sym (at_drop_all (fold step now) xs i past) ∙ same
