use Rattle.std.proofs.Common.{ap, sym, ◌∙◌}
use Rattle.std.specs.Option.{option_copied}
use Rattle.folded_terms.proofs.SeenTerms.{none_unset, some_unset}
use Rattle.folded_terms.proofs.goals.unset_text.Goals as goal

pub returns-in_ok-written_text_of-in-Some : goal.returns-in_ok-written_text_of-in-Some
returns-in_ok-written_text_of-in-Some c =
    some_unset c.args.checked.now c.problem.result.now c.in-Some.atom.now c.in_ok-written_text_of-in-Some.field-0 c.problem.ensures.problem
    (ap option_copied (sym c.in-Some.is) ∙ c.in_ok-atom.ensures) c.in_ok-written_text_of-in-Some.ensures

pub returns-in-None : goal.returns-in-None
returns-in-None c = none_unset c.args.checked.now c.problem.result.now c.problem.ensures.problem (ap option_copied (sym c.in-None.is) ∙ c.in_ok-atom.ensures)
