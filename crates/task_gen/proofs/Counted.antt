-- A text behind which one counter more was written.
use Rattle.std.proofs.Common.{◌≡◌, ℕ, ◌+◌, zero, suc, List, ◌++◌, sym, ap, ◌∙◌, append_assoc, append-nil, arith}
use Rattle.std.specs.List.{flat_map, range_with_len}
use Rattle.task_gen.specs.Counters.{of_counters}

from_a : (text : ℕ → List ℕ) (a n : ℕ) → flat_map text (range_with_len a (suc n)) ≡ flat_map text (range_with_len a n) ++ text (a + n)
from_a text a zero = append-nil (text a) ∙ ap text (omega arith)
from_a text a (suc n) =
    let next : (a + 1) + n ≡ a + suc n = omega arith in
    ap (λ l. text a ++ l) (from_a text (a + 1) n ∙ ap (λ k. flat_map text (range_with_len (a + 1) n) ++ text k) next)
    ∙ sym (append_assoc (text a) (flat_map text (range_with_len (a + 1) n)) (text (a + suc n)))

of_counters-more : (text : ℕ → List ℕ) (n : ℕ) → of_counters text (n + 1) ≡ of_counters text n ++ text n
of_counters-more text n =
    let one : n + 1 ≡ suc n = omega arith in
    let at : 0 + n ≡ n = omega arith in
    ap (of_counters text) one ∙ from_a text 0 n ∙ ap (λ k. of_counters text n ++ text k) at

pub of_counters-written : (text : ℕ → List ℕ) (n : ℕ) (before now after piece : List ℕ) → now ≡ before ++ of_counters text n → after ≡ now ++ piece → piece ≡ text n → after ≡ before ++ of_counters text (n + 1)
of_counters-written text n before now after piece so_far written is =
    written ∙ (λ i. so_far i ++ is i) ∙ append_assoc before (of_counters text n) (text n) ∙ ap (λ l. before ++ l) (sym (of_counters-more text n))
