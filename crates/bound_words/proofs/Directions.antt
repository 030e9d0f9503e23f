-- What is further out, for one word: an order in which `further` is the least upper bound.
use Rattle.std.proofs.Common.{◌≡◌, ℕ, ◌^◌, ◌<◌, arith}
use Rattle.std.specs.Int.Bits.{or_lt}
use Rattle.std.proofs.lemmas.Nat.Bits.{bit_at_or, same_from_bits}
use Rattle.bound_words.specs.declared.system.Direction.{Direction}
use Rattle.bound_words.specs.declared.system.Direction.TheVariants.{Max, Min, Or}
use Rattle.bound_words.specs.Rows.{IsPast, further}

pub past_refl : (d : Direction) (x : ℕ) → IsPast d x x
past_refl Max x = omega arith
past_refl Min x = omega arith
past_refl Or x = λ i. omega arith

pub past_trans : (d : Direction) (x y z : ℕ) → IsPast d x y → IsPast d y z → IsPast d x z
past_trans Max x y z p q = omega arith
past_trans Min x y z p q = omega arith
past_trans Or x y z p q = λ i. let a = p i in let b = q i in omega arith

pub past_same : (d : Direction) (x y : ℕ) → IsPast d x y → IsPast d y x → x ≡ y
past_same Max x y p q = omega arith
past_same Min x y p q = omega arith
past_same Or x y p q = same_from_bits x y (λ i. let a = p i in let b = q i in omega arith)

pub past_left : (d : Direction) (x y : ℕ) → IsPast d x (further d x y)
past_left Max x y = omega arith
past_left Min x y = omega arith
past_left Or x y = λ i. let e = bit_at_or x y i in omega arith

pub past_right : (d : Direction) (x y : ℕ) → IsPast d y (further d x y)
past_right Max x y = omega arith
past_right Min x y = omega arith
past_right Or x y = λ i. let e = bit_at_or x y i in omega arith

pub past_least : (d : Direction) (x y z : ℕ) → IsPast d x z → IsPast d y z → IsPast d (further d x y) z
past_least Max x y z p q = omega arith
past_least Min x y z p q = omega arith
past_least Or x y z p q = λ i. let e = bit_at_or x y i in let a = p i in let b = q i in omega arith

pub further_here : (d : Direction) (x y : ℕ) → IsPast d y x → further d x y ≡ x
further_here d x y p = past_same d (further d x y) x (past_least d x y x (past_refl d x) p) (past_left d x y)

pub further_fits : (d : Direction) (x y : ℕ) → x < 2 ^ 64 → y < 2 ^ 64 → further d x y < 2 ^ 64
further_fits Max x y p q = omega arith
further_fits Min x y p q = omega arith
further_fits Or x y p q = or_lt 64 x y p q
