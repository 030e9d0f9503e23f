use Rattle.std.proofs.Common.{◌≡◌, List, Option, None, sym, ap, ◌∙◌, subst}
use Rattle.sexp_text.specs.Trees.{AreTrees}
use Rattle.sexp_text.specs.declared.trees.Tree.{Tree}
use Rattle.pddl_terms.specs.declared.files.Problem.{Problem}
use Rattle.pddl_trees.specs.declared.faults.Fault.{Fault}
use Rattle.pddl_trees.specs.Faults.{all_noted, first_fault}
use Rattle.pddl_trees.specs.Problems.{problem_in}
use Rattle.pddl_trees.proofs.FirstFault.{none_first}
use Rattle.pddl_grammar.proofs.ReadableTexts.{problem_readable}
use Rattle.pddl_grammar.proofs.SpelledProblems.{problem_fits}
use Rattle.pddl_reader.proofs.ProblemParts.{problem_there}
use Rattle.pddl_reader.proofs.Causes.{value_found}
use Rattle.pddl_reader.proofs.texts.read_problem.Goals as goal

pub unreachable-requires : goal.unreachable-requires
unreachable-requires c =
    let text = c.args.bytes.now in
    let ts : List Tree = c.deref.result.now in
    let first : first_fault (problem_in text ts).faults ≡ None =
    sym (c.in_ok-problem.ensures.faults ∙ ap (λ (n : Option Fault). all_noted n (problem_in text ts).faults) c.new-notes.ensures) ∙ c.in_default.is in
    problem_there text ts ((none_first (problem_in text ts).faults).0 first) (sym (c.in_ok-problem.ensures.value c.in_default.is) ∙ c.in-None.is)

pub returns : goal.returns
returns c =
    let text = c.args.bytes.now in
    let ts : List Tree = c.deref.result.now in
    let found = c.in-Some-problem.problem in
    let first : first_fault (problem_in text ts).faults ≡ None =
    sym (c.in_ok-problem.ensures.faults ∙ ap (λ (n : Option Fault). all_noted n (problem_in text ts).faults) c.new-notes.ensures) ∙ c.in_default.is in
    let are : AreTrees text ts = subst (λ (us : List Tree). AreTrees text us) (sym c.deref.ensures.value) c.in_ok-trees.ensures.trees in
    let said = value_found Problem problem_in text ts are found first (sym (c.in_ok-problem.ensures.value c.in_default.is) ∙ c.in-Some-problem.is) in
    record { answer = (ts, said); readable = problem_readable text found c.requires (problem_fits text ts found said) }
