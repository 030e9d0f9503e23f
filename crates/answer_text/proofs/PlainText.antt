-- Two plain records have one answer, and one text.
use Rattle.std.proofs.Common.{◌≡◌, ℕ, List, [], ◌∷◌, ◌++◌, Option, codes, decimal, map, refl, sym, ap, ap₂, ◌∙◌, subst, false}
use Rattle.ground_task.specs.States.{StateValue}
use Rattle.ground_task.specs.Tasks.{TaskValue}
use Rattle.box_model.specs.declared.state_box.StateBox.{StateBox}
use Rattle.cert_text.specs.Lines.{short_box_line, state_line}
use Rattle.explored.specs.declared.classes.Most.{Most}
use Rattle.plain_runs.specs.Alike.{AreAlike, AreInPairs}
use Rattle.search_runs.specs.Answers.{answer_of, closed_states, path_to}
use Rattle.search_runs.specs.Nodes.{Config}
use Rattle.search_runs.specs.Runs.{has_starve}
use Rattle.search_runs.specs.declared.answers.Answer.{Answer}
use Rattle.search_runs.specs.declared.answers.Answer.TheVariants as answer
use Rattle.search_runs.specs.declared.answers.Full.{Full}
use Rattle.search_runs.specs.declared.answers.Site.{Site}
use Rattle.search_runs.specs.declared.events.Event.{Event}
use Rattle.search_runs.specs.declared.nodes.Node.{Node}
use Rattle.search_records.proofs.Plain.{plain_records_alike}
use Rattle.search_records.specs.Nodes.{AreWithinEachOther}
use Rattle.search_records.specs.Records.{answer_in, config_of, IsPlainWithin}
use Rattle.search_records.specs.declared.record.Record.{Record}
use Rattle.answer_text.proofs.ShortLines.{one_short_line}
use Rattle.answer_text.specs.Texts.{AreLines, AreSorted, certificate_lines, IsTextOf, overflow_lines, plan_lines}

box_lines_same : (t : TaskValue) (bs cs : List StateBox) → AreInPairs AreWithinEachOther bs cs → map (short_box_line t.raw) bs ≡ map (short_box_line t.raw) cs
box_lines_same t [] [] are = refl
box_lines_same t [] (c ∷ cs) are = absurd are
box_lines_same t (b ∷ bs) [] are = absurd are
box_lines_same t (b ∷ bs) (c ∷ cs) are =
    ap₂ (λ (l : List ℕ) (ls : List (List ℕ)). l ∷ ls) (one_short_line t.raw b c are.0.0 are.0.1) (box_lines_same t bs cs are.1)

-- the answer, which the boxes have no part in
answer_by : ℕ → List Event → List (Node StateValue) → Option (ℕ × Site) → Option Full → Option Answer
answer_by limit j nodes over full = answer_of limit j config
  where
    config : Config StateValue StateBox
    config = record { nodes = nodes; boxes = []; over = over; full = full }

module _ (most : Most) (t : TaskValue) (limit : ℕ) (q r : Record) (one : IsPlainWithin most t limit q) (other : IsPlainWithin most t limit r) (fed : has_starve q.journal ≡ false) (also : has_starve r.journal ≡ false) where
  alike : AreAlike AreWithinEachOther q.journal (config_of q) r.journal (config_of r)
  alike = plain_records_alike most t limit q r one other fed also

  tasks : q.task ≡ r.task
  tasks = one.task_is ∙ sym other.task_is

  limits : q.limit ≡ r.limit
  limits = one.limit_is ∙ sym other.limit_is

  pub one_answer : answer_in q ≡ answer_in r
  unfolding answer_by
  one_answer =
      let first : answer_in q ≡ answer_by q.limit q.journal q.nodes q.over q.full = refl in
      let last : answer_by r.limit r.journal r.nodes r.over r.full ≡ answer_in r = refl in
      first
      ∙ ap₂ (λ (k : ℕ) (j : List Event). answer_by k j q.nodes q.over q.full) limits alike.journals
      ∙ ap₂ (λ (nodes : List (Node StateValue)) (over : Option (ℕ × Site)). answer_by r.limit r.journal nodes over q.full) alike.nodes alike.over
      ∙ ap (answer_by r.limit r.journal r.nodes r.over) alike.full
      ∙ last

  certificates : (states : List StateValue) → certificate_lines q.task q.boxes states ≡ certificate_lines r.task r.boxes states
  certificates states =
      ap (λ (u : TaskValue). certificate_lines u q.boxes states) tasks
      ∙ ap (λ (ls : List (List ℕ)). codes "UNSOLVABLE 2\n" ∷ (ls ++ (map (state_line r.task) states ++ codes "end\n" ∷ []))) (box_lines_same r.task q.boxes r.boxes alike.boxes)

  paths : (n : ℕ) → path_to q.nodes n ≡ path_to r.nodes n
  paths n = ap (λ (nodes : List (Node StateValue)). path_to nodes n) alike.nodes

  same_lines : (a : Answer) (lines : List (List ℕ)) → AreLines q a lines → AreLines r a lines
  same_lines (answer.Plan n) lines is = is ∙ ap₂ plan_lines tasks (paths n)
  same_lines answer.Exhausted lines (sorted, are, is) =
      (sorted, subst (λ (nodes : List (Node StateValue)). AreSorted (closed_states nodes) sorted) alike.nodes are, is ∙ certificates sorted)
  same_lines (answer.Over n place) lines is =
      is ∙ ap₂ (λ (u : TaskValue) (path : List ℕ). overflow_lines u path place) tasks (paths n)
  same_lines answer.Expansions lines is =
      is ∙ ap (λ (k : ℕ). (codes "LIMIT expansions " ++ decimal k ++ codes "\n") ∷ []) limits
  same_lines (answer.Filled full) lines is = is
  same_lines answer.Starved lines is = absurd is

  pub same_text : (a : Answer) (text : List ℕ) → IsTextOf q a text → IsTextOf r a text
  same_text a text (lines, are, is) = (lines, same_lines a lines are, is)
