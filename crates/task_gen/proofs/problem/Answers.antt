use Rattle.std.proofs.Common.{◌≡◌, ◌-◌, ◌*◌, ℕ, List, ◌++◌, append_assoc, codes, decimal}
use Rattle.task_gen.specs.Counters.{problem_text, of_counters, object_text, start_text, link_text}
use Rattle.task_gen.proofs.problem.Goals as goal

-- the lines of a text, and its pieces as they are written
pieces : (first second listing objects type_end start top bracket starts goal_open links ending nl : List ℕ)
    → ((((((first ++ (nl ++ (second ++ (nl ++ listing)))) ++ objects) ++ ((type_end ++ (nl ++ start)) ++ (top ++ bracket))) ++ starts) ++ (bracket ++ (nl ++ goal_open))) ++ links) ++ (ending ++ nl)
    ≡ (first ++ nl) ++ (second ++ nl) ++ ((listing ++ objects ++ type_end) ++ nl) ++ ((start ++ top ++ bracket ++ starts ++ bracket) ++ nl) ++ ((goal_open ++ links ++ ending) ++ nl)
pieces first second listing objects type_end start top bracket starts goal_open links ending nl = simp append_assoc

pub returns : goal.returns
unfolding problem_text
returns c =
    let n = c.args.size in
    rw (
      c.in_ok-push_str-2.ensures.bytes,
      c.in_ok-push_links.ensures,
      c.in_ok-push_str.ensures.bytes,
      c.in_ok-push_starts.ensures,
      c.in_ok-write.ensures.bytes,
      c.in_ok-push_objects.ensures,
      c.in_ok-text.ensures.ok,
    ) (pieces (codes "(define (problem counters)") (codes "(:domain counters)") (codes "(:objects") (of_counters object_text n) (codes " - counter)")
    (codes "(:init (= (top) ") (decimal (2 * n)) (codes ")") (of_counters start_text n) (codes "(:goal (and") (of_counters link_text (n - 1)) (codes ")))") (codes "\n"))
