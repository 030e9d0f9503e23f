-- The text of a plan, read again.
use Rattle.std.proofs.Common.{◌≡◌, ℕ, ◌<◌, ◌^◌, suc, Bool, true, false, not, eqb, List, [], ◌∷◌, ◌++◌, All, IsTrue, length, map, flat_map, codes, decimal, Option, option_map, unwrap_or, refl, sym, ap, ap₂, ◌∙◌, subst, inl, inr, arith, append_assoc}
use Rattle.std.proofs.lemmas.Bool.{cond-false, and_parts, and_from}
use Rattle.std.proofs.lemmas.Fmt.{decimal_is_IsNumeral}
use Rattle.std.proofs.lemmas.Bool.Decides.{nat_tests}
use Rattle.std.proofs.lemmas.Option.{slice_get_cases}
use Rattle.std.proofs.lemmas.Str.Parse.{tells_digits}
use Rattle.std.specs.Int.{IsInRange}
use Rattle.std.specs.List.{concat, list_all, join_with_byte, onto_first}
use Rattle.std.specs.Str.Parse.{AllDigits}
use Rattle.num_ends.specs.Names.{IsGroundText, is_name}
use Rattle.ground_task.specs.Tasks.{TaskValue}
use Rattle.ground_task.specs.Valid.{IsValid}
use Rattle.ground_task.specs.declared.raw.Ground.{Ground}
use Rattle.plan_text.proofs.Spelled.{all_joined}
use Rattle.plan_text.proofs.Written.{written_read}
use Rattle.plan_text.specs.Plans as plans
use Rattle.plan_text.specs.Plans.{is_named, lines_of, LinesReadAs, ReadsAs}
use Rattle.plan_text.specs.declared.step.Step.{Step}
use Rattle.answer_text.specs.Readings.{AreStepsOf, IsStepOf}
use Rattle.answer_text.specs.Texts.{plan_lines, step_line}

-- ---- lines

in_line : ℕ → Bool
in_line b = not (eqb b 10)

digit_in_line : (b : ℕ) → IsInRange 48 57 b → in_line b ≡ true
unfolding in_line
digit_in_line b is = grind (arith, nat_tests, is)

digits_in_line : (ds : List ℕ) → AllDigits 10 ds → list_all in_line ds ≡ true
digits_in_line [] all = refl
digits_in_line (d ∷ ds) all =
    let parts = tells_digits.parts d ds all in
    and_from (in_line d) (list_all in_line ds) (digit_in_line d parts.0) (digits_in_line ds parts.1)

-- a line and what follows its line feed
line_cut : (line rest : List ℕ) → list_all in_line line ≡ true → lines_of (line ++ 10 ∷ rest) ≡ line ∷ lines_of rest
unfolding in_line
line_cut [] rest all = refl
line_cut (b ∷ bs) rest all =
    let both = and_parts (in_line b) (list_all in_line bs) all in
    let other : eqb b 10 ≡ false = grind (arith, both.0) in
    cond-false (eqb b 10) ([] ∷ lines_of (bs ++ 10 ∷ rest)) _ other ∙ ap (onto_first b) (line_cut bs rest both.1)

-- the first line without its line feed
abbrev head : ℕ → List ℕ
head n = codes "; PLAN " ++ decimal n

head_in_line : (n : ℕ) → n < 2 ^ 64 → list_all in_line (head n) ≡ true
unfolding in_line
head_in_line n few = all_joined in_line (codes "; PLAN ") (decimal n) refl (digits_in_line (decimal n) (decimal_is_IsNumeral n few).0.1)

-- ---- steps

-- the text of a ground action spells a step
step_of : (t : TaskValue) (a : ℕ) → IsValid t.raw → a < length t.raw.actions → (s : Step) × IsStepOf t a s
step_of t a valid known =
    elim (slice_get_cases t.raw.actions a).1 [
      | inl (x, within, there, got) ↦
          let is : IsGroundText x.name = subst (λ (y : Ground). IsGroundText y.name) got (valid.action_texts a x within) in
          let step : Step = record { name = is.name; args = is.objects } in
          (step, (ap (λ (o : Option Ground). unwrap_or (option_map (λ y. y.name) o) []) there ∙ is.spelled, and_from (is_name is.name) (list_all is_name is.objects) is.a_name is.object_names))
      | inr (past, none) ↦ absurd (omega (arith, past, known))
    ]

pub steps_of : (t : TaskValue) (path : List ℕ) → IsValid t.raw → All (λ a. a < length t.raw.actions) path → (steps : List Step) × AreStepsOf t path steps
steps_of t [] valid known = ([], tt)
steps_of t (a ∷ path) valid known =
    let first = step_of t a valid (known 0 a (omega arith)) in
    let rest = steps_of t path valid (λ k d within. known (suc k) d (omega (arith, within))) in
    (first.0 ∷ rest.0, (first.1, rest.1))

line_same : (t : TaskValue) (a : ℕ) (s : Step) → IsStepOf t a s → step_line t a ≡ plans.step_line s
line_same t a s is =
    ap (λ (l : List ℕ). l ++ codes "\n") is.0
    ∙ append_assoc (codes "(" ++ join_with_byte 32 (s.name ∷ s.args)) (codes ")") (codes "\n")

lines_same : (t : TaskValue) (path : List ℕ) (steps : List Step) → AreStepsOf t path steps → concat (map (step_line t) path) ≡ flat_map plans.step_line steps
lines_same t [] [] is = refl
lines_same t [] (s ∷ steps) is = absurd is
lines_same t (a ∷ path) [] is = absurd is
lines_same t (a ∷ path) (s ∷ steps) is =
    ap₂ (λ (l r : List ℕ). l ++ r) (line_same t a s is.0) (lines_same t path steps is.1)

all_named : (t : TaskValue) (path : List ℕ) (steps : List Step) → AreStepsOf t path steps → IsTrue (list_all is_named steps)
all_named t [] [] is = refl
all_named t [] (s ∷ steps) is = absurd is
all_named t (a ∷ path) [] is = absurd is
all_named t (a ∷ path) (s ∷ steps) is =
    and_from (is_named s) (list_all is_named steps) is.0.1 (all_named t path steps is.1)

-- the text of a plan reads as its steps
pub plan_read : (t : TaskValue) (path : List ℕ) (steps : List Step) → length path < 2 ^ 64 → AreStepsOf t path steps → ReadsAs (concat (plan_lines t path)) steps
plan_read t path steps few are =
    let rest = concat (map (step_line t) path) in
    let text : concat (plan_lines t path) ≡ head (length path) ++ 10 ∷ rest = append_assoc (codes "; PLAN " ++ decimal (length path)) (10 ∷ []) rest in
    let lines : lines_of (concat (plan_lines t path)) ≡ head (length path) ∷ lines_of rest =
    ap lines_of text ∙ line_cut (head (length path)) rest (head_in_line (length path) few) in
    let reads : ReadsAs rest steps = subst (λ (l : List ℕ). ReadsAs l steps) (sym (lines_same t path steps are)) (written_read steps (all_named t path steps are)) in
    subst (λ (ls : List (List ℕ)). LinesReadAs ls steps) (sym lines)
    ([], steps, refl, inl (inr ([], codes " PLAN " ++ decimal (length path), refl, refl), refl), reads)
