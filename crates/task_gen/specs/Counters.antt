-- The texts of the task in which each of n counters is to be below the next.
use Rattle.std.specs.Prelude.{ℕ, ◌+◌, ◌-◌, ◌*◌, List, ◌++◌, codes, decimal}
use Rattle.std.specs.List.{flat_map, range_with_len}

abbrev pub line : List ℕ → List ℕ
line text = text ++ codes "\n"

unfoldable pub domain_text : List ℕ
domain_text =
    line (codes "(define (domain counters)")
    ++ line (codes "(:types counter)")
    ++ line (codes "(:functions (value ?c - counter) (top))")
    ++ line (codes "(:action increment :parameters (?c - counter) :precondition (<= (+ (value ?c) 1) (top)) :effect (increase (value ?c) 1))")
    ++ line (codes "(:action decrement :parameters (?c - counter) :precondition (>= (value ?c) 1) :effect (decrease (value ?c) 1)))")

-- what stands for the counter i among the objects, the initial values and the goal's conditions
abbrev pub object_text : ℕ → List ℕ
object_text i = codes " c" ++ decimal i

abbrev pub start_text : ℕ → List ℕ
start_text i = codes " (= (value c" ++ decimal i ++ codes ") 0)"

abbrev pub link_text : ℕ → List ℕ
link_text i = codes " (<= (+ (value c" ++ decimal i ++ codes ") 1) (value c" ++ decimal (i + 1) ++ codes "))"

-- the texts of the first n counters
abbrev pub of_counters : (ℕ → List ℕ) → ℕ → List ℕ
of_counters text n = flat_map text (range_with_len 0 n)

unfoldable pub problem_text : ℕ → List ℕ
problem_text n =
    line (codes "(define (problem counters)")
    ++ line (codes "(:domain counters)")
    ++ line (codes "(:objects" ++ of_counters object_text n ++ codes " - counter)")
    ++ line (codes "(:init (= (top) " ++ decimal (2 * n) ++ codes ")" ++ of_counters start_text n ++ codes ")")
    ++ line (codes "(:goal (and" ++ of_counters link_text (n - 1) ++ codes ")))")
