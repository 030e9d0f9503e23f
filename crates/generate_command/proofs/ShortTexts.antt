-- The texts of a generated task are short.
use Rattle.std.proofs.Common.{◌≡◌, ℕ, ◌<◌, ◌≤◌, ◌+◌, ◌*◌, ◌-◌, ◌^◌, zero, suc, List, [], ◌∷◌, ◌++◌, length, codes, decimal, flat_map, refl, arith, length-append}
use Rattle.std.specs.List.{range_with_len}
use Rattle.std.proofs.lemmas.Fmt.{length-decimal-le}
use Rattle.task_gen.specs.Counters.{domain_text, line, link_text, object_text, of_counters, problem_text, start_text}

joined : (xs ys : List ℕ) (a b : ℕ) → length xs ≤ a → length ys ≤ b → length (xs ++ ys) ≤ a + b
joined xs ys a b few fewer = omega (arith, length-append xs ys, few, fewer)

digits : (n : ℕ) → n < 1000 → length (decimal n) ≤ 3
digits n few = length-decimal-le 3 n (omega arith) (omega (arith, few)) (omega (arith, few))

-- pieces of at most 50 bytes each
pieces : (text : ℕ → List ℕ) → ((i : ℕ) → i < 999 → length (text i) ≤ 50) → (first n : ℕ) → first + n ≤ 999 → length (flat_map text (range_with_len first n)) ≤ n * 50
pieces text short first zero few = omega arith
pieces text short first (suc n) few =
    let rest = pieces text short (first + 1) n (omega (arith, few)) in
    let here = short first (omega (arith, few)) in
    omega (arith, rest, here, length-append (text first) (flat_map text (range_with_len (first + 1) n)))

object_short : (i : ℕ) → i < 999 → length (object_text i) ≤ 50
object_short i few = omega (arith, joined (codes " c") (decimal i) 2 3 (omega arith) (digits i (omega (arith, few))))

start_short : (i : ℕ) → i < 999 → length (start_text i) ≤ 50
start_short i few =
    let end = joined (decimal i) (codes ") 0)") 3 4 (digits i (omega (arith, few))) (omega arith) in
    omega (arith, joined (codes " (= (value c") (decimal i ++ codes ") 0)") 12 7 (omega arith) end)

link_short : (i : ℕ) → i < 999 → length (link_text i) ≤ 50
link_short i few =
    let one = joined (decimal i) (codes ") 1) (value c") 3 13 (digits i (omega (arith, few))) (omega arith) in
    let two = joined (decimal i ++ codes ") 1) (value c") (decimal (i + 1)) 16 3 one (digits (i + 1) (omega (arith, few))) in
    omega (arith, joined (decimal i ++ codes ") 1) (value c" ++ decimal (i + 1)) (codes "))") 19 2 two (omega arith))

pub domain_short : length domain_text ≤ 2 ^ 30
unfolding domain_text
domain_short = omega arith

-- the texts of the last three lines
abbrev objects_of : ℕ → List ℕ
objects_of n = codes "(:objects" ++ of_counters object_text n ++ codes " - counter)"

abbrev starts_of : ℕ → List ℕ
starts_of n = codes "(:init (= (top) " ++ decimal (2 * n) ++ codes ")" ++ of_counters start_text n ++ codes ")"

abbrev goal_of : ℕ → List ℕ
goal_of n = codes "(:goal (and" ++ of_counters link_text (n - 1) ++ codes ")))"

lined : (text : List ℕ) (a : ℕ) → length text ≤ a → length (line text) ≤ a + 1
lined text a few = joined text (codes "\n") a 1 few (omega arith)

objects_line : (n : ℕ) → n ≤ 64 → length (line (objects_of n)) ≤ 10000
objects_line n few =
    let objects = pieces object_text object_short 0 n (omega (arith, few)) in
    let front = joined (codes "(:objects") (of_counters object_text n) 9 3200 (omega arith) (omega (arith, objects, few)) in
    omega (arith, lined (objects_of n) 3220 (joined (codes "(:objects" ++ of_counters object_text n) (codes " - counter)") 3209 11 front (omega arith)))

starts_line : (n : ℕ) → n ≤ 64 → length (line (starts_of n)) ≤ 10000
starts_line n few =
    let starts = pieces start_text start_short 0 n (omega (arith, few)) in
    let top = joined (codes "(:init (= (top) ") (decimal (2 * n)) 16 3 (omega arith) (digits (2 * n) (omega (arith, few))) in
    let closed = joined (codes "(:init (= (top) " ++ decimal (2 * n)) (codes ")") 19 1 top (omega arith) in
    let all = joined (codes "(:init (= (top) " ++ decimal (2 * n) ++ codes ")") (of_counters start_text n) 20 3200 closed (omega (arith, starts, few)) in
    omega (arith, lined (starts_of n) 3221 (joined (codes "(:init (= (top) " ++ decimal (2 * n) ++ codes ")" ++ of_counters start_text n) (codes ")") 3220 1 all (omega arith)))

goal_line : (n : ℕ) → n ≤ 64 → length (line (goal_of n)) ≤ 10000
goal_line n few =
    let links = pieces link_text link_short 0 (n - 1) (omega (arith, few)) in
    let front = joined (codes "(:goal (and") (of_counters link_text (n - 1)) 11 3200 (omega arith) (omega (arith, links, few)) in
    omega (arith, lined (goal_of n) 3214 (joined (codes "(:goal (and" ++ of_counters link_text (n - 1)) (codes ")))") 3211 3 front (omega arith)))

-- five lines of at most 10,000 bytes each
five : (a b c d e : List ℕ) → length a ≤ 10000 → length b ≤ 10000 → length c ≤ 10000 → length d ≤ 10000 → length e ≤ 10000 → length (a ++ b ++ c ++ d ++ e) ≤ 50000
five a b c d e few few_b few_c few_d few_e =
    joined (a ++ b ++ c ++ d) e 40000 10000 (joined (a ++ b ++ c) d 30000 10000 (joined (a ++ b) c 20000 10000 (joined a b 10000 10000 few few_b) few_c) few_d) few_e

pub problem_short : (n : ℕ) → n ≤ 64 → length (problem_text n) ≤ 2 ^ 30
unfolding problem_text
problem_short n few =
    let short = five (line (codes "(define (problem counters)")) (line (codes "(:domain counters)")) (line (objects_of n)) (line (starts_of n)) (line (goal_of n)) (omega arith) (omega arith) (objects_line n few) (starts_line n few) (goal_line n few) in
    omega (arith, short)
