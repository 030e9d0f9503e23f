-- The order of two lists of numbers where one of them has ended.
use Rattle.std.proofs.Common.{◌≡◌, ℕ, ℤ, List, [], ◌∷◌, length, drop, min, ◌∙◌, arith}
use Rattle.std.specs.Cmp.Lexicographic.{slice_cmp}
use Rattle.std.specs.Ordering.{int_cmp, nat_cmp}
use Rattle.std.proofs.lemmas.List.{length-drop}
use Rattle.ground_task.proofs.PackedOrder.{cmp_alike, cmp_equal, cmp_greater, cmp_less}

ended : (xs ys : List ℤ) → min (length xs) (length ys) ≡ 0 → nat_cmp (length xs) (length ys) ≡ slice_cmp int_cmp xs ys
ended [] [] h = cmp_equal 0 0 (omega arith)
ended [] (y ∷ ys) h = cmp_less 0 (length (y ∷ ys)) (omega arith)
ended (x ∷ xs) [] h = cmp_greater (length (x ∷ xs)) 0 (omega arith)
ended (x ∷ xs) (y ∷ ys) h = absurd (omega (arith, h))

-- behind the numbers that both have, the order is that of how many there are
pub last_numbers : (k : ℕ) (xs ys : List ℤ) → k ≡ min (length xs) (length ys) → nat_cmp (length xs) (length ys) ≡ slice_cmp int_cmp (drop k xs) (drop k ys)
last_numbers k xs ys is =
    cmp_alike (length xs) (length ys) (length (drop k xs)) (length (drop k ys))
    (λ h. omega (arith, h, is, length-drop k xs, length-drop k ys))
    (λ h. omega (arith, h, is, length-drop k xs, length-drop k ys))
    (λ h. omega (arith, h, is, length-drop k xs, length-drop k ys))
    ∙ ended (drop k xs) (drop k ys) (omega (arith, is, length-drop k xs, length-drop k ys))
