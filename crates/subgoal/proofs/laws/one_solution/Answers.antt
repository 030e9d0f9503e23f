use Rattle.std.proofs.Common.{◌∙◌, ◌≤◌, ℕ, List, ap, subst, sym}
use Rattle.simple_atoms.specs.declared.linear.TheConstants.{FAR}
use Rattle.subgoal.specs.Equations.{condition_value}
use Rattle.subgoal.specs.Help.{atoms_in}
use Rattle.subgoal.proofs.Repeating.{atoms_repeat}
use Rattle.subgoal.proofs.Uniqueness.{one_solution, value_near}
use Rattle.subgoal.proofs.laws.one_solution.Goals as goal

pub returns : goal.returns
returns c = record {
  values = λ t s v w solves also. one_solution (atoms_in t s) (atoms_repeat t s) t.raw.actions v w solves also;
  estimate = λ t s h k one other.
      one.goal
      ∙ ap (λ (v : List ℕ). condition_value (atoms_in t s) t.raw.actions v t.raw.goal) (one_solution (atoms_in t s) (atoms_repeat t s) t.raw.actions one.values other.values one.solve other.solve)
      ∙ sym other.goal;
  most = λ t s h one. subst (λ (n : ℕ). n ≤ FAR) (sym one.goal) (value_near (atoms_in t s) t.raw.actions one.values t.raw.goal);
}
