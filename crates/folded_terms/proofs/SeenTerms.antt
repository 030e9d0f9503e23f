-- What patterns of terms fold to, as contracts see them.
use Rattle.std.proofs.Common.{◌≡◌, ℕ, true, List, [], Option, Some, None, sym, ap, subst, ◌∙◌}
use Rattle.std.specs.Prelude.{codes, option_map}
use Rattle.pddl_terms.specs.declared.names.Atom.{Atom}
use Rattle.pddl_terms.specs.declared.names.Typed.{Typed}
use Rattle.pddl_terms.specs.declared.conditions.Cond.{Cond}
use Rattle.pddl_terms.specs.declared.files.Problem.{Problem}
use Rattle.pddl_types.specs.declared.faults.Side.TheVariants as side
use Rattle.pddl_types.specs.declared.pairs.Pair.{Pair}
use Rattle.pddl_types.specs.Contents.{all_read, condition_parts}
use Rattle.static_facts.specs.Atoms.{atom_of, names, text_of_atom}
use Rattle.ground_meaning.specs.declared.faults.GroundFault.TheVariants as fault
use Rattle.ground_meaning.specs.Expressions.FoldFault.{Divide, OutOfRange}
use Rattle.ground_meaning.specs.Conditions.{folded_condition}
use Rattle.ground_meaning.specs.Goals.{folded_goal, unset_in_goal}
use Rattle.folded_terms.specs.declared.faults.FoldError.{FoldError}
use Rattle.folded_terms.specs.declared.faults.FoldError.TheVariants as error
use Rattle.folded_terms.specs.Faults.{IsFoldFault}
use Rattle.folded_terms.specs.Goals.{IsGoalFault}
use Rattle.folded_terms.specs.Goals.IsGoalFault.{unset, unfolded, by_memory}
use Rattle.folded_terms.specs.internal.Unset.{first_unset}

pub goal_seen : (p : Pair) (q : Problem) (v : Pair × List Typed × Cond) → v ≡ (p, [], q.goal) → q ≡ p.problem → folded_condition v.0 v.1 (names v.0 []) v.2 true ≡ folded_goal p
unfolding folded_goal
goal_seen p q v is e =
    ap (λ (w : Pair × List Typed × Cond). folded_condition w.0 w.1 (names w.0 []) w.2 true) is ∙ ap (λ (r : Problem). folded_condition p [] [] r.goal true) e

pub text_of_goal : (p : Pair) (text : List ℕ) (found : Option (List ℕ)) → found ≡ Some text → found ≡ unset_in_goal p → IsGoalFault p (fault.Unset text)
text_of_goal p text found e h = unset text (sym h ∙ e)

pub place_of_goal : (p : Pair) (f : FoldError) (place : ℕ) → f ≡ error.Divide place → unset_in_goal p ≡ None → IsFoldFault (folded_goal p) f → IsGoalFault p (fault.Divide side.Problem place)
place_of_goal p f place is set h = unfolded (Divide place) set (subst (λ (g : FoldError). IsFoldFault (folded_goal p) g) is h)

pub range_of_goal : (p : Pair) (text : List ℕ) → text ≡ codes "goal" → (f : FoldError) → f ≡ error.OutOfRange → unset_in_goal p ≡ None → IsFoldFault (folded_goal p) f → IsGoalFault p (fault.Range text)
range_of_goal p text is f fault_is set h =
    subst (λ (t : List ℕ). IsGoalFault p (fault.Range t)) (sym is) (unfolded OutOfRange set (subst (λ (g : FoldError). IsFoldFault (folded_goal p) g) fault_is h))

pub memory_of_goal : (p : Pair) → IsGoalFault p fault.NoMemory
memory_of_goal p = by_memory

pub some_unset : (p : Pair) (q : Problem) (a : Atom) (text : List ℕ) → q ≡ p.problem → Some a ≡ first_unset p (all_read (condition_parts q.goal).numbers) → text ≡ text_of_atom (atom_of [] [] a)
    → Some text ≡ unset_in_goal p
unfolding unset_in_goal
some_unset p q a text is h e =
    ap Some e ∙ ap (option_map (λ a. text_of_atom (atom_of [] [] a))) (h ∙ ap (λ (r : Problem). first_unset p (all_read (condition_parts r.goal).numbers)) is)

pub none_unset : (p : Pair) (q : Problem) → q ≡ p.problem → None ≡ first_unset p (all_read (condition_parts q.goal).numbers) → None ≡ unset_in_goal p
unfolding unset_in_goal
none_unset p q is h = ap (option_map (λ a. text_of_atom (atom_of [] [] a))) (h ∙ ap (λ (r : Problem). first_unset p (all_read (condition_parts r.goal).numbers)) is)
