-- The first state of a task by its numbers: how many facts and values it has, and what they are.
use Rattle.std.proofs.Common.{◌≡◌, ℕ, ◌<◌, ◌∙◌, ap, sym, ℤ, pos, false, List, length, map, slice_index_or, arith, All, ◌+◌, ◌++◌, [], ◌∷◌, to_z, of_z}
use Rattle.std.specs.Int.{w128}
use Rattle.std.proofs.lemmas.Int.{to_z-of_z, fits_signed_from_abs}
use Rattle.std.proofs.lemmas.List.FromFn.{length-map-range_with_len, get_or-map-range_with_len, map-range_with_len_more}
use borrow.Author.Count.{below_more}
use Rattle.std.specs.List.{range_with_len}
use Rattle.num_ends.specs.Decimal.{Decimal, InRange}
use Rattle.ground_task.specs.declared.raw.RawTask.{RawTask}
use Rattle.ground_task.specs.Tasks.{first_number, first_state, is_listed, AreFirstInRange}

-- a number in range is what its word stands for
pub number_kept : (n : ℤ) → InRange n → to_z w128 (of_z w128 n) ≡ n
number_kept n fits = to_z-of_z w128 n (fits_signed_from_abs w128 n fits)

-- one more number at the end
pub first_numbers_more : (places : List ℕ) (values : List Decimal) (i : ℕ) (items more : List ℤ) (n : ℤ) → n ≡ first_number places values i → more ≡ items ++ n ∷ [] → items ≡ map (first_number places values) (range_with_len 0 i) → more ≡ map (first_number places values) (range_with_len 0 (i + 1))
first_numbers_more places values i items more n is pushed before =
    pushed
    ∙ ap (λ (m : ℤ). items ++ m ∷ []) is
    ∙ ap (λ (ms : List ℤ). ms ++ first_number places values i ∷ []) before
    ∙ sym (map-range_with_len_more (first_number places values) 0 i i (omega arith))

pub first_in_range_more : (places : List ℕ) (values : List Decimal) (i : ℕ) (n : ℤ) → n ≡ first_number places values i → InRange n → AreFirstInRange places values i → AreFirstInRange places values (i + 1)
first_in_range_more places values i n is fits before =
    below_more (λ x. InRange (first_number places values x)) i before (rw (← is) fits)

-- the numbers of the first values are in range where each is
pub All-first_number : (places : List ℕ) (values : List Decimal) (count : ℕ) → AreFirstInRange places values count → All InRange (map (first_number places values) (range_with_len 0 count))
All-first_number places values count each = λ x d below.
    let known : x < count = omega (arith, length-map-range_with_len (first_number places values) 0 count) in
    let number = get_or-map-range_with_len (first_number places values) 0 count x x d known (omega arith) in
    rw number (each x known)

-- the first state has a truth value per fact
pub facts_of_first : (raw : RawTask) (places : List ℕ) → length (first_state raw places).facts ≡ length raw.facts
facts_of_first raw places = length-map-range_with_len (is_listed raw.true_facts) 0 (length raw.facts)

-- the first state has a number per fluent
pub values_of_first : (raw : RawTask) (places : List ℕ) → length (first_state raw places).values ≡ length raw.fluents
values_of_first raw places = length-map-range_with_len (first_number places raw.values) 0 (length raw.fluents)

-- a fact is true at first where it is listed
pub fact_of_first : (raw : RawTask) (places : List ℕ) (f : ℕ) → f < length raw.facts → slice_index_or (first_state raw places).facts f false ≡ is_listed raw.true_facts f
fact_of_first raw places f known =
    get_or-map-range_with_len (is_listed raw.true_facts) 0 (length raw.facts) f f false known (omega arith)

-- the number of a fluent at first is that of its trimmed first value at its places
pub value_of_first : (raw : RawTask) (places : List ℕ) (x : ℕ) → x < length raw.fluents → slice_index_or (first_state raw places).values x (pos 0) ≡ first_number places raw.values x
value_of_first raw places x known =
    get_or-map-range_with_len (first_number places raw.values) 0 (length raw.fluents) x x (pos 0) known (omega arith)
