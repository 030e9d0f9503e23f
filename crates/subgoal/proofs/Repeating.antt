-- The repetitions of the actions of a task are at least one.
use Rattle.std.proofs.Common.{if◌then◌else◌, ◌≡◌, ℕ, ◌≤◌, ◌||◌, Bool, true, false, Option, Some, None, arith}
use Rattle.std.specs.List.{list_any}
use Rattle.num_ends.specs.Decimal.{Decimal}
use Rattle.ground_task.specs.declared.answers.Truth.{Truth}
use Rattle.ground_task.specs.declared.answers.Truth.TheVariants.{Yes, No, Over}
use Rattle.ground_task.specs.declared.raw.GCond.TheVariants as c
use Rattle.ground_task.specs.declared.raw.Rel.{Rel}
use Rattle.ground_task.specs.declared.raw.GExpr.{GExpr}
use Rattle.ground_task.specs.declared.raw.Ground.{Ground}
use Rattle.ground_task.specs.Meaning.{fact_value, has_truth}
use Rattle.ground_task.specs.Ranged.{ranged_truth}
use Rattle.ground_task.specs.States.{StateValue}
use Rattle.ground_task.specs.Tasks.{TaskValue}
use Rattle.simple_atoms.specs.declared.linear.Linear.{Linear}
use Rattle.simple_atoms.specs.Repetitions.{helps, repetitions, sizes_of, steps_of}
use Rattle.simple_atoms.specs.Values.{gain_of}
use Rattle.subgoal.specs.Help.{atoms_in, changes, help_by_form, help_by_gain, help_by_truth, makes, once_where, reads_of, valued_form}
use Rattle.subgoal.specs.Repeats.{AllRepeat, Repeats}

some_one : (a b : ℕ) → Some a ≡ Some b → a ≡ b
some_one a b h = cc

once : (b : Bool) (m : ℕ) → once_where b ≡ Some m → 1 ≤ m
once true m h = omega (arith, some_one 1 m h)
once false m h = cc

some_steps : (f : Linear) (sizes : Option (ℕ × ℕ)) → 1 ≤ steps_of f sizes
some_steps f None = omega arith
some_steps f (Some sizes) = omega arith

some_repetitions : (f : Linear) (value gain : Decimal) (m : ℕ) → repetitions f value gain ≡ Some m → 1 ≤ m
some_repetitions f value gain m h = where_helps (helps f value gain) h
  where
    where_helps : (b : Bool) → (if b then Some (steps_of f (sizes_of value gain)) else None) ≡ Some m → 1 ≤ m
    where_helps true e = omega (arith, some_steps f (sizes_of value gain), some_one (steps_of f (sizes_of value gain)) m e)
    where_helps false e = cc

by_gain : (f : Linear) (value : Decimal) (a : Ground) (gain : Option Decimal) (m : ℕ) → help_by_gain f value a gain ≡ Some m → 1 ≤ m
by_gain f value a None m h = once (list_any (λ t. changes a t.0) f.terms) m h
by_gain f value a (Some gain) m h = some_repetitions f value gain m h

by_form : (left right : GExpr) (known : Option (Linear × Decimal)) → Repeats (Some (help_by_form left right known))
by_form left right None = λ a m h. once (list_any (changes a) (reads_of left) || list_any (changes a) (reads_of right)) m h
by_form left right (Some known) = λ a m h. by_gain known.0 known.1 a (gain_of known.0 a) m h

by_truth : (t : TaskValue) (s : StateValue) (r : Rel) (left right : GExpr) (truth : Truth) → Repeats (help_by_truth t s r left right truth)
by_truth t s r left right Yes = tt
by_truth t s r left right No = by_form left right (valued_form t.places s r left right)
by_truth t s r left right Over = by_form left right None

by_literal : (b : Bool) (f : ℕ) (truth : Bool) → Repeats (if b then None else Some (λ a. once_where (makes f truth a)))
by_literal true f truth = tt
by_literal false f truth = λ a m h. once (makes f truth a) m h

pub atoms_repeat : (t : TaskValue) (s : StateValue) → AllRepeat (atoms_in t s)
atoms_repeat t s = record {
  literals = λ f truth. by_literal (has_truth truth (fact_value s f)) f truth;
  comparisons = λ r a b. by_truth t s r a b (ranged_truth t s (c.Cmp r a b));
}
