-- A plan has no more steps than its text has lines.
use Rattle.std.proofs.Common.{ℕ, suc, ◌^◌, ◌≤◌, ◌<◌, ◌==◌, inl, inr, List, [], ◌∷◌, length, sym, subst, arith}
use Rattle.std.proofs.lemmas.List.Sums.{count_by-le-length}
use Rattle.std.proofs.lemmas.List.{length-append}
use Rattle.std.proofs.lemmas.List.Splits.{length-slice_split}
use Rattle.plan_text.specs.Plans.{LineReadsAs, LinesReadAs, ReadsAs, lines_of}
use Rattle.plan_text.specs.declared.step.Step.{Step}

one_step : (line : List ℕ) (steps : List Step) → LineReadsAs line steps → length steps ≤ 1
one_step line steps reads =
    elim reads [
      | inl skipped ↦ subst (λ (ss : List Step). length ss ≤ 1) (sym skipped.1) (omega arith)
      | inr step ↦ subst (λ (ss : List Step). length ss ≤ 1) (sym step.1) (omega arith)
    ]

few_in_lines : (lines : List (List ℕ)) (steps : List Step) → LinesReadAs lines steps → length steps ≤ length lines
few_in_lines [] steps reads = subst (λ (ss : List Step). length ss ≤ 0) (sym reads) (omega arith)
few_in_lines (line ∷ lines) steps reads =
    let first = one_step line reads.0 reads.3 in
    let rest = few_in_lines lines reads.1 reads.4 in
    subst (λ (ss : List Step). length ss ≤ suc (length lines)) (sym reads.2) (omega (arith, length-append reads.0 reads.1, first, rest))

pub few_steps : (text : List ℕ) (steps : List Step) → ReadsAs text steps → length text < 2 ^ 30 → length steps ≤ 2 ^ 30
few_steps text steps reads small =
    omega (arith, few_in_lines (lines_of text) steps reads, length-slice_split (λ (b : ℕ). b == 10) text, count_by-le-length (λ (b : ℕ). b == 10) text, small)
