-- The reading of lines, and the steps that they read as.
use Rattle.std.proofs.Common.{◌≡◌, ℕ, ◌+◌, List, [], ◌∷◌, ◌++◌, length, Option, Some, None, Result, Ok, Err, inl, inr, ◌⊎◌, refl, sym, ap, ◌∙◌, subst, arith, append_assoc, append-nil, zero-add}
use Rattle.std.specs.Prelude.{option_map}
use Rattle.std.specs.Option.{option_map_or}
use Rattle.plan_text.specs.declared.step.Step.{Step}
use Rattle.plan_text.specs.Plans.{lines_of, IsSkipped, SpellsStep, LinesReadAs, ReadsAs, IsBad, IsFirstBad}
use Rattle.plan_text.specs.internal.Reading.{steps_in, read_from, is_skipped}
use Rattle.plan_text.proofs.Spelled.{same_some}
use Rattle.plan_text.proofs.LineSteps.{step_read, skipped_read, step_not_skipped, line_read, line_spelled, line_bad, bad_line}
use Rattle.std.proofs.lemmas.Bool.{both_ways}

abbrev Reading : Type 0
Reading = Result (List Step) ℕ

err_ok : (n : ℕ) (steps : List Step) → ◌≡◌ {A = Reading} (Err n) (Ok steps) → ⊥
err_ok n steps e = cc

same_ok : (first second : List Step) → ◌≡◌ {A = Reading} (Ok first) (Ok second) → first ≡ second
same_ok first second e = cc

same_err : (first second : ℕ) → ◌≡◌ {A = Reading} (Err first) (Err second) → first ≡ second
same_err first second e = cc

answer : List Step → Reading
answer steps = Ok steps

fault : ℕ → Reading
fault number = Err number

-- how the reading goes on behind a line
abbrev with_line : ℕ → List Step → List (List ℕ) → Option (List Step) → Reading
with_line n steps lines o = option_map_or (λ more. read_from (n + 1) (steps ++ more) lines) o (Err n)

-- ---- from the relation to the reading

pub reads_on : (lines : List (List ℕ)) (n : ℕ) (steps more : List Step) → LinesReadAs lines more → read_from n steps lines ≡ Ok (steps ++ more)
unfolding answer
reads_on [] n steps more is = ap answer (sym (append-nil steps) ∙ ap (λ (s : List Step). steps ++ s) (sym is))
reads_on (line ∷ lines) n steps more (first, rest, is, here, behind) =
    ap (with_line n steps lines) (line_read line first here)
    ∙ reads_on lines (n + 1) (steps ++ first) rest behind
    ∙ ap answer (append_assoc steps first rest ∙ ap (λ (s : List Step). steps ++ s) (sym is))

pub bad_on : (before : List (List ℕ)) (n : ℕ) (steps more : List Step) (line : List ℕ) (rest : List (List ℕ)) → LinesReadAs before more → IsBad line
    → read_from n steps (before ++ line ∷ rest) ≡ Err (length before + n)
unfolding fault
bad_on [] n steps more line rest is bad = ap (with_line n steps rest) (line_bad line bad) ∙ ap fault (sym (zero-add n))
bad_on (l ∷ ls) n steps more line rest (first, others, is, here, behind) bad =
    let place : length ls + (n + 1) ≡ length (l ∷ ls) + n = omega arith in
    ap (with_line n steps (ls ++ line ∷ rest)) (line_read l first here)
    ∙ bad_on ls (n + 1) (steps ++ first) others line rest behind bad
    ∙ ap fault place

-- ---- from the reading to the relation

-- lines that are read as all these steps, with those before them
abbrev pub ReadsFrom : List (List ℕ) → List Step → List Step → Type 0
ReadsFrom lines steps all = (more : List Step) × (all ≡ steps ++ more) × LinesReadAs lines more

pub read_so : (lines : List (List ℕ)) (n : ℕ) (steps all : List Step) → read_from n steps lines ≡ Ok all → ReadsFrom lines steps all
read_so [] n steps all e = ([], sym (same_ok steps all e) ∙ sym (append-nil steps), refl)
read_so (line ∷ lines) n steps all e = by_line (λ first. read_so lines (n + 1) (steps ++ first) all) (steps_in line) refl e
  where
    by_line : ((first : List Step) → read_from (n + 1) (steps ++ first) lines ≡ Ok all → ReadsFrom lines (steps ++ first) all)
        → (o : Option (List Step)) → steps_in line ≡ o → with_line n steps lines o ≡ Ok all → ReadsFrom (line ∷ lines) steps all
    by_line behind None is e = absurd (err_ok n all e)
    by_line behind (Some first) is e =
        let rest = behind first e in
        (first ++ rest.0, rest.1 ∙ append_assoc steps first rest.0, (first, rest.0, refl, line_spelled line first is, rest.2))

-- the first bad one of lines of which the first has this number
abbrev pub BadFrom : List (List ℕ) → ℕ → ℕ → Type 0
BadFrom lines n number =
    (before : List (List ℕ)) × (line : List ℕ) × (rest : List (List ℕ)) × (steps : List Step)
    × (lines ≡ before ++ line ∷ rest) × (number ≡ length before + n) × LinesReadAs before steps × IsBad line

pub bad_so : (lines : List (List ℕ)) (n : ℕ) (steps : List Step) (number : ℕ) → read_from n steps lines ≡ Err number → BadFrom lines n number
bad_so [] n steps number e = absurd (err_ok number steps (sym e))
bad_so (line ∷ lines) n steps number e = by_line (λ first. bad_so lines (n + 1) (steps ++ first) number) (steps_in line) refl e
  where
    by_line : ((first : List Step) → read_from (n + 1) (steps ++ first) lines ≡ Err number → BadFrom lines (n + 1) number)
        → (o : Option (List Step)) → steps_in line ≡ o → with_line n steps lines o ≡ Err number → BadFrom (line ∷ lines) n number
    by_line behind None is e = ([], line, lines, [], refl, sym (same_err n number e) ∙ sym (zero-add n), refl, bad_line line is)
    by_line behind (Some first) is e =
        let more = behind first e in
        let place : length more.0 + (n + 1) ≡ length (line ∷ more.0) + n = omega arith in (
          line ∷ more.0,
          more.1,
          more.2,
          first ++ more.3,
          ap (λ (ls : List (List ℕ)). line ∷ ls) more.4,
          more.5 ∙ place,
          (first, more.3, refl, line_spelled line first is, more.6),
          more.7,
        )

-- ---- texts

pub reads_here : (text : List ℕ) (n : ℕ) (steps : List Step) → read_from n steps [] ≡ read_from 1 [] (lines_of text) → ReadsAs text steps
reads_here text n steps e =
    let all = read_so (lines_of text) 1 [] steps (sym e) in
    subst (LinesReadAs (lines_of text)) (sym all.1) all.2

bad_said : (text : List ℕ) (number : ℕ) → read_from 1 [] (lines_of text) ≡ Err number → IsFirstBad text number
bad_said text number e =
    let found = bad_so (lines_of text) 1 [] number e in
    record {
      before = found.0;
      line = found.1;
      rest = found.2;
      lines = found.4;
      place = found.5;
      steps_before = found.3;
      good_before = found.6;
      bad = found.7;
    }

pub bad_here : (text : List ℕ) (n : ℕ) (steps : List Step) (lines : List (List ℕ)) (line : List ℕ) (rest : List (List ℕ))
    → read_from n steps lines ≡ read_from 1 [] (lines_of text) → lines ≡ line ∷ rest
    → option_map (λ (more : List Step). steps ++ more) (steps_in line) ≡ None → IsFirstBad text n
bad_here text n steps lines line rest same first bad =
    bad_said text n (sym same ∙ ap (read_from n steps) first ∙ ap (with_line n steps rest) (by_line (steps_in line) bad))
  where
    some_none : (s : List Step) → Some s ≡ None → ⊥
    some_none s e = cc

    by_line : (o : Option (List Step)) → option_map (λ (more : List Step). steps ++ more) o ≡ None → o ≡ None
    by_line None e = refl
    by_line (Some more) e = absurd (some_none (steps ++ more) e)

-- ---- one reading

pub one_step : (line : List ℕ) (first second : Step) → SpellsStep line first → SpellsStep line second → first ≡ second
one_step line first second one other = same_some first second (sym (step_read line first one) ∙ step_read line second other)

pub none_skipped : (line : List ℕ) (step : Step) → IsSkipped line → SpellsStep line step → ⊥
none_skipped line step skipped spells = both_ways (is_skipped line) (step_not_skipped line step spells) (skipped_read line skipped)

pub one_list : (text : List ℕ) (first second : List Step) → ReadsAs text first → ReadsAs text second → first ≡ second
one_list text first second one other =
    same_ok first second (sym (reads_on (lines_of text) 1 [] first one) ∙ reads_on (lines_of text) 1 [] second other)

first_bad : (text : List ℕ) (number : ℕ) → IsFirstBad text number → read_from 1 [] (lines_of text) ≡ Err number
unfolding fault
first_bad text number is =
    ap (read_from 1 []) is.lines ∙ bad_on is.before 1 [] is.steps_before is.line is.rest is.good_before is.bad ∙ ap fault (sym is.place)

pub read_or_bad : (text : List ℕ) (steps : List Step) (number : ℕ) → ReadsAs text steps → IsFirstBad text number → ⊥
read_or_bad text steps number reads bad =
    err_ok number steps (sym (first_bad text number bad) ∙ reads_on (lines_of text) 1 [] steps reads)

pub one_bad : (text : List ℕ) (first second : ℕ) → IsFirstBad text first → IsFirstBad text second → first ≡ second
one_bad text first second one other = same_err first second (sym (first_bad text first one) ∙ first_bad text second other)

pub some_answer : (text : List ℕ) → ((steps : List Step) × ReadsAs text steps) ⊎ ((number : ℕ) × IsFirstBad text number)
some_answer text = by_answer (read_from 1 [] (lines_of text)) refl
  where
    by_answer : (r : Reading) → read_from 1 [] (lines_of text) ≡ r → ((steps : List Step) × ReadsAs text steps) ⊎ ((number : ℕ) × IsFirstBad text number)
    by_answer (Ok steps) is = inl (steps, reads_here text 1 steps (sym is))
    by_answer (Err number) is = inr (number, bad_said text number is)
