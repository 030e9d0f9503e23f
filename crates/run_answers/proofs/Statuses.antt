-- How answers end.
use Rattle.std.proofs.Common.{◌≡◌, ℕ, List, ◌++◌, Contains, refl, ◌∙◌, arith}
use Rattle.std.proofs.lemmas.List.{get_or_append_left, length-append}
use Rattle.pair_text.specs.declared.refusals.Refusal.{Refusal}
use Rattle.run_answers.specs.Refused.{refused}

pub refused_status : (refusal : Refusal) → (refused refusal).status ≡ 4
unfolding refused
refused_status refusal = refl

-- what stands in a front stands in the whole
pub in_front : (front rest : List ℕ) (n : ℕ) → Contains front n → Contains (front ++ rest) n
in_front front rest n is =
    (is.0, omega (arith, is.1, length-append front rest), get_or_append_left front rest n is.0 is.1 ∙ is.2)
