-- The verdict on the steps that are left in a world, and what it says of all of them.
use Rattle.std.proofs.Common.{◌≡◌, ℕ, ◌+◌, List, [], ◌∷◌, ◌++◌, ◌<◌, ◌≤◌, length, get_or, drop, refl, sym, ap, ◌∙◌, subst, arith}
use Rattle.std.proofs.lemmas.List.{at_drop_more, drop_all}
use Rattle.pddl_types.specs.declared.pairs.Pair.{Pair}
use Rattle.pddl_meaning.specs.declared.answers.Holds.{Holds}
use Rattle.pddl_meaning.specs.declared.answers.Holds.TheVariants as truth
use Rattle.pddl_meaning.specs.declared.answers.Stepped.{Stepped}
use Rattle.pddl_meaning.specs.declared.answers.Stepped.TheVariants as answer
use Rattle.pddl_meaning.specs.Worlds.{WorldValue, initial_world}
use Rattle.pddl_meaning.specs.Truth.{ranged_goal}
use Rattle.plan_text.specs.declared.step.Step.{Step}
use Rattle.plan_validator.specs.declared.verdicts.Verdict.{Verdict}
use Rattle.plan_validator.specs.declared.verdicts.Verdict.TheVariants as verdict
use Rattle.plan_validator.specs.Verdicts.{answer_to, RangedLead, FailsAt, EndsWith, IsVerdict}

-- ---- the verdict, step by step

abbrev pub at_goal : Holds → Verdict
at_goal truth.Yes = verdict.Valid
at_goal truth.No = verdict.NotGoal
at_goal truth.Over = verdict.OverGoal

abbrev pub on_answer : Stepped → ℕ → (WorldValue → Verdict) → Verdict
on_answer (answer.Next next) n go = go next
on_answer answer.Blocked n go = verdict.Blocked n
on_answer answer.Illegal n go = verdict.Illegal n
on_answer answer.Over n go = verdict.Over n

-- the verdict on steps of which the first has this number, from a world
abbrev pub verdict_from : Pair → WorldValue → ℕ → List Step → Verdict
verdict_from p w n [] = at_goal (ranged_goal p w)
verdict_from p w n (s ∷ steps) = on_answer (answer_to p w s) n (λ next. verdict_from p next (n + 1) steps)

-- ---- from the relation to this verdict

reached : (p : Pair) (steps : List Step) (w last : WorldValue) (n : ℕ) → RangedLead p w steps last
    → verdict_from p w n steps ≡ at_goal (ranged_goal p last)
reached p [] w last n led = ap (λ (x : WorldValue). at_goal (ranged_goal p x)) led
reached p (s ∷ steps) w last n (next, is, led) =
    ap (λ (a : Stepped). on_answer a n (λ (x : WorldValue). verdict_from p x (n + 1) steps)) is ∙ reached p steps next last (n + 1) led

passed : (p : Pair) (before rest : List Step) (w mid : WorldValue) (n : ℕ) → RangedLead p w before mid
    → verdict_from p w n (before ++ rest) ≡ verdict_from p mid (length before + n) rest
passed p [] rest w mid n led = ap (λ (x : WorldValue). verdict_from p x n rest) led ∙ ap (λ (k : ℕ). verdict_from p mid k rest) (omega arith)
passed p (s ∷ before) rest w mid n (next, is, led) =
    ap (λ (a : Stepped). on_answer a n (λ (x : WorldValue). verdict_from p x (n + 1) (before ++ rest))) is
    ∙ passed p before rest next mid (n + 1) led
    ∙ ap (λ (k : ℕ). verdict_from p mid k rest) (omega arith)

ended : (p : Pair) (steps : List Step) (goal : Holds) → EndsWith p steps goal → verdict_from p (initial_world p) 1 steps ≡ at_goal goal
ended p steps goal e = reached p steps (initial_world p) e.last 1 e.led ∙ ap at_goal e.ends

failed : (p : Pair) (steps : List Step) (number : ℕ) (failure : Stepped) (f : FailsAt p steps number failure)
    → verdict_from p (initial_world p) 1 steps ≡ on_answer failure number (λ next. verdict_from p next (number + 1) f.rest)
failed p steps number failure f =
    ap (verdict_from p (initial_world p) 1) f.spelled
    ∙ passed p f.before (f.step ∷ f.rest) (initial_world p) f.world 1 f.led
    ∙ ap (λ (k : ℕ). verdict_from p f.world k (f.step ∷ f.rest)) (sym f.place)
    ∙ ap (λ (a : Stepped). on_answer a number (λ (next : WorldValue). verdict_from p next (number + 1) f.rest)) f.fails

pub is_this : (p : Pair) (steps : List Step) (v : Verdict) → IsVerdict p steps v → verdict_from p (initial_world p) 1 steps ≡ v
is_this p steps verdict.Valid e = ended p steps truth.Yes e
is_this p steps (verdict.Blocked i) e = failed p steps i answer.Blocked e
is_this p steps (verdict.Illegal i) e = failed p steps i answer.Illegal e
is_this p steps (verdict.Over i) e = failed p steps i answer.Over e
is_this p steps verdict.OverGoal e = ended p steps truth.Over e
is_this p steps verdict.NotGoal e = ended p steps truth.No e

-- ---- from this verdict to the relation

-- as `FailsAt` and `EndsWith`, from any world and number
abbrev pub FailsFrom : Pair → WorldValue → ℕ → List Step → ℕ → Stepped → Type 0
FailsFrom p w n steps number failure =
    (before : List Step) × (step : Step) × (rest : List Step) × (mid : WorldValue)
    × (steps ≡ before ++ step ∷ rest) × (number ≡ length before + n) × RangedLead p w before mid × (answer_to p mid step ≡ failure)

abbrev pub EndsFrom : Pair → WorldValue → List Step → Holds → Type 0
EndsFrom p w steps goal = (last : WorldValue) × RangedLead p w steps last × (ranged_goal p last ≡ goal)

abbrev pub IsVerdictFrom : Pair → WorldValue → ℕ → List Step → Verdict → Type 0
IsVerdictFrom p w n steps verdict.Valid = EndsFrom p w steps truth.Yes
IsVerdictFrom p w n steps (verdict.Blocked i) = FailsFrom p w n steps i answer.Blocked
IsVerdictFrom p w n steps (verdict.Illegal i) = FailsFrom p w n steps i answer.Illegal
IsVerdictFrom p w n steps (verdict.Over i) = FailsFrom p w n steps i answer.Over
IsVerdictFrom p w n steps verdict.OverGoal = EndsFrom p w steps truth.Over
IsVerdictFrom p w n steps verdict.NotGoal = EndsFrom p w steps truth.No

ends_on : (p : Pair) (w next : WorldValue) (s : Step) (steps : List Step) (goal : Holds) → answer_to p w s ≡ answer.Next next
    → EndsFrom p next steps goal → EndsFrom p w (s ∷ steps) goal
ends_on p w next s steps goal is (last, led, ends) = (last, (next, is, led), ends)

fails_on : (p : Pair) (w next : WorldValue) (n : ℕ) (s : Step) (steps : List Step) (i : ℕ) (failure : Stepped) → answer_to p w s ≡ answer.Next next
    → FailsFrom p next (n + 1) steps i failure → FailsFrom p w n (s ∷ steps) i failure
fails_on p w next n s steps i failure is (before, step, rest, mid, spelled, place, led, fails) =
    (s ∷ before, step, rest, mid, ap (λ (t : List Step). s ∷ t) spelled, place ∙ omega arith, (next, is, led), fails)

goes_on : (p : Pair) (w next : WorldValue) (n : ℕ) (s : Step) (steps : List Step) (v : Verdict) → answer_to p w s ≡ answer.Next next
    → IsVerdictFrom p next (n + 1) steps v → IsVerdictFrom p w n (s ∷ steps) v
goes_on p w next n s steps verdict.Valid is e = ends_on p w next s steps truth.Yes is e
goes_on p w next n s steps (verdict.Blocked i) is e = fails_on p w next n s steps i answer.Blocked is e
goes_on p w next n s steps (verdict.Illegal i) is e = fails_on p w next n s steps i answer.Illegal is e
goes_on p w next n s steps (verdict.Over i) is e = fails_on p w next n s steps i answer.Over is e
goes_on p w next n s steps verdict.OverGoal is e = ends_on p w next s steps truth.Over is e
goes_on p w next n s steps verdict.NotGoal is e = ends_on p w next s steps truth.No is e

fails_here : (p : Pair) (w : WorldValue) (n : ℕ) (s : Step) (steps : List Step) (failure : Stepped) → answer_to p w s ≡ failure
    → FailsFrom p w n (s ∷ steps) n failure
fails_here p w n s steps failure is = ([], s, steps, w, refl, omega arith, refl, is)

ends_here : (p : Pair) (w : WorldValue) (n : ℕ) (goal : Holds) → ranged_goal p w ≡ goal → IsVerdictFrom p w n [] (at_goal goal)
ends_here p w n truth.Yes is = (w, refl, is)
ends_here p w n truth.No is = (w, refl, is)
ends_here p w n truth.Over is = (w, refl, is)

from : (p : Pair) (steps : List Step) (w : WorldValue) (n : ℕ) → IsVerdictFrom p w n steps (verdict_from p w n steps)
from p [] w n = ends_here p w n (ranged_goal p w) refl
from p (s ∷ steps) w n = by_answer (λ next. from p steps next (n + 1)) (answer_to p w s) refl
  where
    by_answer : ((next : WorldValue) → IsVerdictFrom p next (n + 1) steps (verdict_from p next (n + 1) steps)) → (a : Stepped) → answer_to p w s ≡ a
        → IsVerdictFrom p w n (s ∷ steps) (on_answer a n (λ next. verdict_from p next (n + 1) steps))
    by_answer behind (answer.Next next) is = goes_on p w next n s steps (verdict_from p next (n + 1) steps) is (behind next)
    by_answer behind answer.Blocked is = fails_here p w n s steps answer.Blocked is
    by_answer behind answer.Illegal is = fails_here p w n s steps answer.Illegal is
    by_answer behind answer.Over is = fails_here p w n s steps answer.Over is

ends_at_first : (p : Pair) (steps : List Step) (goal : Holds) → EndsFrom p (initial_world p) steps goal → EndsWith p steps goal
ends_at_first p steps goal (last, led, ends) = record { last = last; led = led; ends = ends }

fails_at_first : (p : Pair) (steps : List Step) (i : ℕ) (failure : Stepped) → FailsFrom p (initial_world p) 1 steps i failure → FailsAt p steps i failure
fails_at_first p steps i failure (before, step, rest, mid, spelled, place, led, fails) =
    record { before = before; step = step; rest = rest; spelled = spelled; place = place; world = mid; led = led; fails = fails }

from_first : (p : Pair) (steps : List Step) (v : Verdict) → IsVerdictFrom p (initial_world p) 1 steps v → IsVerdict p steps v
from_first p steps verdict.Valid e = ends_at_first p steps truth.Yes e
from_first p steps (verdict.Blocked i) e = fails_at_first p steps i answer.Blocked e
from_first p steps (verdict.Illegal i) e = fails_at_first p steps i answer.Illegal e
from_first p steps (verdict.Over i) e = fails_at_first p steps i answer.Over e
from_first p steps verdict.OverGoal e = ends_at_first p steps truth.Over e
from_first p steps verdict.NotGoal e = ends_at_first p steps truth.No e

-- the verdict that is found is the verdict
pub told : (p : Pair) (steps : List Step) (v : Verdict) → verdict_from p (initial_world p) 1 steps ≡ v → IsVerdict p steps v
told p steps v is = subst (IsVerdict p steps) is (from_first p steps (verdict_from p (initial_world p) 1 steps) (from p steps (initial_world p) 1))

-- the steps from the one at an index on
stops : (p : Pair) (w : WorldValue) (n i : ℕ) (plan : List Step) (s : Step) (failure : Stepped) → i < length plan → s ≡ get_or plan i s → answer_to p w s ≡ failure
    → verdict_from p w n (drop i plan) ≡ on_answer failure n (λ next. verdict_from p next (n + 1) (drop (i + 1) plan))
stops p w n i plan s failure within there is =
    at_drop_more (verdict_from p w n) plan i s within
    ∙ ap (λ (t : Step). verdict_from p w n (t ∷ drop (i + 1) plan)) (sym there)
    ∙ ap (λ (a : Stepped). on_answer a n (λ (next : WorldValue). verdict_from p next (n + 1) (drop (i + 1) plan))) is

-- what was done, and then the rest, is the whole
abbrev pub IsWhole : Pair → WorldValue → ℕ → ℕ → List Step → Type 0
IsWhole p w n i plan = verdict_from p w n (drop i plan) ≡ verdict_from p (initial_world p) 1 plan

pub blocked_here : (p : Pair) (w : WorldValue) (n i : ℕ) (plan : List Step) (s : Step) → IsWhole p w n i plan → i < length plan → s ≡ get_or plan i s
    → answer_to p w s ≡ answer.Blocked → FailsAt p plan n answer.Blocked
blocked_here p w n i plan s whole within there is = told p plan (verdict.Blocked n) (sym whole ∙ stops p w n i plan s answer.Blocked within there is)

pub illegal_here : (p : Pair) (w : WorldValue) (n i : ℕ) (plan : List Step) (s : Step) → IsWhole p w n i plan → i < length plan → s ≡ get_or plan i s
    → answer_to p w s ≡ answer.Illegal → FailsAt p plan n answer.Illegal
illegal_here p w n i plan s whole within there is = told p plan (verdict.Illegal n) (sym whole ∙ stops p w n i plan s answer.Illegal within there is)

pub over_here : (p : Pair) (w : WorldValue) (n i : ℕ) (plan : List Step) (s : Step) → IsWhole p w n i plan → i < length plan → s ≡ get_or plan i s
    → answer_to p w s ≡ answer.Over → FailsAt p plan n answer.Over
over_here p w n i plan s whole within there is = told p plan (verdict.Over n) (sym whole ∙ stops p w n i plan s answer.Over within there is)

-- no steps are left
at_end : (p : Pair) (w : WorldValue) (n i : ℕ) (plan : List Step) (goal : Holds) → IsWhole p w n i plan → length plan ≤ i → ranged_goal p w ≡ goal
    → verdict_from p (initial_world p) 1 plan ≡ at_goal goal
at_end p w n i plan goal whole past is = sym whole ∙ ap (verdict_from p w n) (drop_all i plan past) ∙ ap at_goal is

pub valid_here : (p : Pair) (w : WorldValue) (n i : ℕ) (plan : List Step) → IsWhole p w n i plan → length plan ≤ i → ranged_goal p w ≡ truth.Yes
    → EndsWith p plan truth.Yes
valid_here p w n i plan whole past is = told p plan verdict.Valid (at_end p w n i plan truth.Yes whole past is)

pub no_goal_here : (p : Pair) (w : WorldValue) (n i : ℕ) (plan : List Step) → IsWhole p w n i plan → length plan ≤ i → ranged_goal p w ≡ truth.No
    → EndsWith p plan truth.No
no_goal_here p w n i plan whole past is = told p plan verdict.NotGoal (at_end p w n i plan truth.No whole past is)

pub over_goal_here : (p : Pair) (w : WorldValue) (n i : ℕ) (plan : List Step) → IsWhole p w n i plan → length plan ≤ i → ranged_goal p w ≡ truth.Over
    → EndsWith p plan truth.Over
over_goal_here p w n i plan whole past is = told p plan verdict.OverGoal (at_end p w n i plan truth.Over whole past is)

-- ---- the laws

pub some_verdict : (p : Pair) (steps : List Step) → (v : Verdict) × IsVerdict p steps v
some_verdict p steps = (verdict_from p (initial_world p) 1 steps, told p steps (verdict_from p (initial_world p) 1 steps) refl)

pub one_verdict : (p : Pair) (steps : List Step) (first second : Verdict) → IsVerdict p steps first → IsVerdict p steps second → first ≡ second
one_verdict p steps first second is also = sym (is_this p steps first is) ∙ is_this p steps second also
