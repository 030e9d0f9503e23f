-- An answer has one text.
use Rattle.std.proofs.Common.{◌≡◌, ℕ, List, sym, ap, ◌∙◌}
use Rattle.std.specs.List.{concat}
use Rattle.search_runs.specs.Answers.{closed_states}
use Rattle.search_runs.specs.declared.answers.Answer.{Answer}
use Rattle.search_runs.specs.declared.answers.Answer.TheVariants as answer
use Rattle.search_records.specs.declared.record.Record.{Record}
use Rattle.answer_text.proofs.OneOrder.{one_sorted}
use Rattle.answer_text.specs.Texts.{AreLines, certificate_lines, IsTextOf}

one_list : (r : Record) (a : Answer) (lines others : List (List ℕ)) → AreLines r a lines → AreLines r a others → lines ≡ others
one_list r (answer.Plan n) lines others is are = is ∙ sym are
one_list r answer.Exhausted lines others (sorted, is, same) (also, are, equal) =
    same ∙ ap (certificate_lines r.task r.boxes) (one_sorted (closed_states r.nodes) sorted also is are) ∙ sym equal
one_list r (answer.Over n place) lines others is are = is ∙ sym are
one_list r answer.Expansions lines others is are = is ∙ sym are
one_list r (answer.Filled full) lines others is are = is ∙ sym are
one_list r answer.Starved lines others is are = absurd is

pub one_text : (r : Record) (a : Answer) (text other : List ℕ) → IsTextOf r a text → IsTextOf r a other → text ≡ other
one_text r a text other (lines, is, same) (others, are, equal) =
    same ∙ ap concat (one_list r a lines others is are) ∙ sym equal
