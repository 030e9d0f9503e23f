-- Rows in a table of numbers.
use Rattle.std.proofs.Common.{◌≡◌, ◌<◌, ◌≤◌, ◌+◌, ◌*◌, ◌++◌, ℕ, zero, suc, List, [], ◌∷◌, length, take, drop, Some, refl, sym, ap, ◌∙◌, arith, add-one, slice_get, length-drop}
use Rattle.std.proofs.Math.Nat.{mul-le-mul_right}
use Rattle.std.proofs.lemmas.List.{drop-append-le, drop-drop, take-append-le, take_all}
use Rattle.binder.specs.Tables.{parted}

pub length-parted : (width rows : ℕ) (cells : List ℕ) → length (parted width rows cells) ≡ rows
length-parted width zero cells = refl
length-parted width (suc rows) cells = ap suc (length-parted width rows (drop width cells))

all_cells : (xs : List ℕ) → length xs ≡ 0 → xs ≡ []
all_cells [] h = refl
all_cells (x ∷ xs) h = absurd (omega (arith, h))

appended : (width rows : ℕ) (cells row : List ℕ) → length cells ≡ rows * width → length row ≡ width → parted width (suc rows) (cells ++ row) ≡ parted width rows cells ++ row ∷ []
appended width zero cells row h w =
    let none : cells ≡ [] = all_cells cells (omega (arith, h)) in
    ap (λ (cs : List ℕ). take width (cs ++ row) ∷ []) none
    ∙ ap (λ (r : List ℕ). r ∷ []) (take_all width row (omega (arith, w)))
appended width (suc rows) cells row h w =
    let enough : width ≤ length cells = omega (arith, h) in
    let behind : length (drop width cells) ≡ rows * width = length-drop width cells ∙ omega (arith, h) in
    ap (λ (r : List ℕ). r ∷ parted width (suc rows) (drop width (cells ++ row))) (take-append-le width cells row enough)
    ∙ ap (λ (cs : List ℕ). take width cells ∷ parted width (suc rows) cs) (drop-append-le width cells row enough)
    ∙ ap (λ (rs : List (List ℕ)). take width cells ∷ rs) (appended width rows (drop width cells) row behind w)

-- a row behind all others
pub parted-append : (width rows : ℕ) (cells row : List ℕ) → length cells ≡ rows * width → length row ≡ width → parted width (rows + 1) (cells ++ row) ≡ parted width rows cells ++ row ∷ []
parted-append width rows cells row h w = ap (λ (n : ℕ). parted width n (cells ++ row)) (add-one rows) ∙ appended width rows cells row h w

pub row_within : (width rows number : ℕ) → number < rows → number * width + width ≤ rows * width
row_within width rows number l =
    let more : number + 1 ≤ rows = omega (arith, l) in
    let product = mul-le-mul_right width more in
    omega (arith, product)

-- the row with a number
pub row_at : (width rows : ℕ) (cells : List ℕ) (number : ℕ) → number < rows → slice_get (parted width rows cells) number ≡ Some (take width (drop (number * width) cells))
row_at width zero cells number l = absurd (omega (arith, l))
row_at width (suc rows) cells zero l =
    let none : 0 * width ≡ 0 = omega arith in
    ap (λ (n : ℕ). Some (take width (drop n cells))) (sym none)
row_at width (suc rows) cells (suc number) l =
    let behind : width + number * width ≡ suc number * width = omega arith in
    row_at width rows (drop width cells) number (omega (arith, l))
    ∙ ap (λ (cs : List ℕ). Some (take width cs)) (drop-drop (number * width) width cells)
    ∙ ap (λ (n : ℕ). Some (take width (drop n cells))) behind
