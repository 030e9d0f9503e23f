-- How deep the trees of a part of a list are.
use Rattle.std.proofs.Common.{◌≡◌, ℕ, zero, suc, ◌-◌, ◌≤◌, List, [], ◌∷◌, take, drop, length, arith}
use Rattle.std.proofs.lemmas.List.{take_all}
use denote.Param.Weighed.{most}

pub most_drop : {X : Type 0} (size : X → ℕ) (n : ℕ) (xs : List X) → most size (drop n xs) ≤ most size xs
most_drop size zero [] = omega arith
most_drop size zero (x ∷ xs) = omega arith
most_drop size (suc n) [] = omega arith
most_drop size (suc n) (x ∷ xs) = let rest = most_drop size n xs in omega arith

pub most_take : {X : Type 0} (size : X → ℕ) (n : ℕ) (xs : List X) → most size (take n xs) ≤ most size xs
most_take size zero [] = omega arith
most_take size zero (x ∷ xs) = omega arith
most_take size (suc n) [] = omega arith
most_take size (suc n) (x ∷ xs) = let rest = most_take size n xs in omega arith

-- all but the first
abbrev pub tail_of : {X : Type 0} → List X → List X
tail_of xs = take (length xs - 1) (drop 1 xs)

pub most_tail : {X : Type 0} (size : X → ℕ) (xs : List X) → most size (tail_of xs) ≤ most size xs
most_tail size xs =
    let rest = most_drop size 1 xs in
    let part = most_take size (length xs - 1) (drop 1 xs) in
    omega arith

pub tail_is : {X : Type 0} (x : X) (xs : List X) → tail_of (x ∷ xs) ≡ xs
tail_is x xs = take_all (suc (length xs) - 1) xs (omega arith)
