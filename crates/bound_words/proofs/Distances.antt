-- A row further out is more distant.
use Rattle.std.proofs.Common.{◌≡◌, ◌≢◌, ℕ, zero, suc, ◌^◌, ◌<◌, ◌≤◌, List, get_or, subst, arith}
use mathlib.Core.Logic.{dite}
use native.Mathlib.Decide.{ℕ_discrete, dec_lt}
use Rattle.std.specs.Int.{bit_at}
use Rattle.std.proofs.lemmas.Nat.Bits.{same_from_bits_below}
use Rattle.bound_words.specs.declared.system.Direction.{Direction}
use Rattle.bound_words.specs.declared.system.Direction.TheVariants.{Max, Min, Or}
use Rattle.bound_words.specs.Rows.{Terms, IsPast, IsRow, IsRowPast}
use Rattle.bound_words.specs.Distance.{bits_apart, value_distance, distance_to, FurtherIsMoreDistant}

bits_further : (x y z n : ℕ) → IsPast Or x y → IsPast Or y z → bits_apart x y n ≤ bits_apart x z n
bits_further x y z zero p q = omega arith
bits_further x y z (suc n) p q = let a = p n in let b = q n in let r = bits_further x y z n p q in omega arith

-- bits that are as far apart are the same
bits_same : (x y z n : ℕ) → IsPast Or x y → IsPast Or y z → bits_apart x y n ≡ bits_apart x z n → (i : ℕ) → i < n → bit_at y i ≡ bit_at z i
bits_same x y z zero p q e i h = absurd (omega arith)
bits_same x y z (suc n) p q e i h = let a = p n in let b = q n in let r = bits_further x y z n p q in
    dite (dec_lt i n) (λ lt. bits_same x y z n p q (omega arith) i lt) (λ not. let is : n ≡ i = omega arith in let top : bit_at y n ≡ bit_at z n = omega arith in subst (λ (k : ℕ). bit_at y k ≡ bit_at z k) is top)

value_further : (d : Direction) (x y z : ℕ) → IsPast d x y → IsPast d y z → value_distance d x y ≤ value_distance d x z
value_further Max x y z p q = omega arith
value_further Min x y z p q = omega arith
value_further Or x y z p q = bits_further x y z 64 p q

value_moved : (d : Direction) (x y z : ℕ) → y < 2 ^ 64 → z < 2 ^ 64 → IsPast d x y → IsPast d y z → y ≢ z → value_distance d x y < value_distance d x z
value_moved Max x y z fy fz p q ne = omega (arith, ne)
value_moved Min x y z fy fz p q ne = omega (arith, ne)
value_moved Or x y z fy fz p q ne = let le = bits_further x y z 64 p q in dite (ℕ_discrete (bits_apart x y 64) (bits_apart x z 64))
    (λ e. absurd (ne (same_from_bits_below 64 y z fy fz (bits_same x y z 64 p q e)))) (λ apart. strict (bits_apart x y 64) (bits_apart x z 64) le apart)
  where
    strict : (m n : ℕ) → m ≤ n → m ≢ n → m < n
    strict m n le ne = omega arith

module _ (t : Terms) (a b c : List ℕ) where
  rows_further : (n : ℕ) → n ≤ t.words → IsRowPast t a b → IsRowPast t b c → distance_to t a b n ≤ distance_to t a c n
  rows_further zero h p q = omega arith
  rows_further (suc n) h p q = let r = rows_further n (omega arith) p q in let v = value_further (t.direction n) (get_or a n 0) (get_or b n 0) (get_or c n 0) (p n (omega arith)) (q n (omega arith)) in omega arith

  rows_moved : (n w : ℕ) → n ≤ t.words → w < n → IsRow t b → IsRow t c → IsRowPast t a b → IsRowPast t b c → get_or b w 0 ≢ get_or c w 0 → distance_to t a b n < distance_to t a c n
  rows_moved zero w h lt rb rc p q ne = absurd (omega arith)
  rows_moved (suc n) w h lt rb rc p q ne = let v = value_further (t.direction n) (get_or a n 0) (get_or b n 0) (get_or c n 0) (p n (omega arith)) (q n (omega arith)) in
      dite (dec_lt w n) (λ below. let r = rows_moved n w (omega arith) below rb rc p q ne in omega arith)
      (λ not. let is : w ≡ n = omega arith in let r = rows_further n (omega arith) p q in
      let m = value_moved (t.direction n) (get_or a n 0) (get_or b n 0) (get_or c n 0) (rb.fits n (omega arith)) (rc.fits n (omega arith)) (p n (omega arith)) (q n (omega arith)) (subst (λ (k : ℕ). get_or b k 0 ≢ get_or c k 0) is ne) in omega arith)

pub further_is_more_distant : FurtherIsMoreDistant
further_is_more_distant t a b c ra rb rc p q = (rows_further t a b c t.words (omega arith) p q, λ m. rows_moved t a b c t.words m.0 (omega arith) m.1 rb rc p q m.3)
