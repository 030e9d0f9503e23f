-- How a search ends.
use Rattle.std.proofs.Common.{◌≡◌, ◌≢◌, ℕ, ◌≤◌, ◌^◌, List, Option, Some, Result, Ok, Err, IfOk, IfErr, length, map, option_map, refl, sym, ap, subst, arith}
use Rattle.dead_ends.specs.Reachable.{IsDeadState, initial_state}
use Rattle.ground_task.specs.Tasks.{TaskValue}
use Rattle.pair_task.proofs.OneAnswer.{no_refusal}
use Rattle.pair_task.proofs.Tasks.{same_task}
use Rattle.pair_task.specs.Refusals.{IsFault}
use Rattle.pair_task.specs.Tasks.{IsAccepted, IsTaskOf}
use Rattle.pair_text.specs.declared.refusals.PairFault.{PairFault}
use Rattle.pair_text.specs.declared.refusals.PairFault.TheVariants.{Refused, NoMemory}
use Rattle.plan_text.specs.declared.step.Step.{Step}
use Rattle.search_records.proofs.Complete.{dead_start, decided}
use Rattle.search_records.proofs.Plain.{plain_legal_record}
use Rattle.search_records.specs.Complete.{HasRoom, IsDecided}
use Rattle.search_records.specs.Records.{IsLegal, IsLegalRecord, answer_in, bounds}
use Rattle.search_records.specs.declared.record.Record.{Record}
use Rattle.search_runs.specs.declared.answers.Answer.{Answer}
use Rattle.search_runs.specs.declared.answers.Answer.TheVariants as variant
use Rattle.answer_text.specs.Texts.{HasText, status_of}
use Rattle.plan_command.specs.Ends.{Decides, EndsWith, HasStatus}
use Rattle.plan_command.specs.Found.{HasPlan, IsFound, SaysOfPair}

module _ (domain problem : List ℕ) (few_in_domain : length domain ≤ 2 ^ 30) (few_in_problem : length problem ≤ 2 ^ 30) (limit : ℕ) (r : Record) (is : IsFound domain problem limit r) where
  legal : IsLegal r.task limit 1 r
  legal = plain_legal_record bounds r.task limit r is.plain

  told : is.answer ≢ variant.Starved
  told e = subst (SaysOfPair domain problem r) e is.says

  status : (a : Answer) → answer_in r ≡ Some a → HasStatus (status_of a) r
  status a answered = ap (option_map status_of) answered

  decides : (a : Answer) → answer_in r ≡ Some a → SaysOfPair domain problem r a → IsDecided a → Decides domain problem r
  decides (variant.Plan n) answered says sure =
      Decides.solved (map (λ (step : Step). (step.name, step.args)) says.steps, says.is_plan) (status (variant.Plan n) answered)
  decides variant.Exhausted answered says sure = Decides.unsolvable says (status variant.Exhausted answered)
  decides (variant.Over n place) answered says sure = absurd sure
  decides variant.Expansions answered says sure = absurd sure
  decides (variant.Filled full) answered says sure = absurd sure
  decides variant.Starved answered says sure = absurd sure

  same : (task : TaskValue) → IsTaskOf domain problem task → task ≡ r.task
  same task other = same_task domain problem few_in_domain few_in_problem task r.task other.whole is.task.whole

  pub room_decides : (task : TaskValue) → IsTaskOf domain problem task → HasRoom task limit bounds → Decides domain problem r
  room_decides task other room =
      decides is.answer is.answered is.says
      (decided bounds (omega arith) (omega arith) r.task limit 1 is.task.whole.whole.placed r legal is.answer is.answered told
      (subst (λ (t : TaskValue). HasRoom t limit bounds) (same task other) room))

  pub dead_ends : (task : TaskValue) → IsTaskOf domain problem task → IsDeadState task (initial_state task) → HasStatus 1 r
  dead_ends task other dead =
      let exhausted = dead_start bounds (omega arith) (omega arith) r.task limit 1 is.task.whole.whole.placed r legal is.answer is.answered told
      (subst (λ (t : TaskValue). IsDeadState t (initial_state t)) (same task other) dead) in
      subst (λ (a : Answer). HasStatus (status_of a) r) exhausted (status is.answer is.answered)

-- a record that was found is legal, and its answer has a text
pub legal_record : (domain problem : List ℕ) (limit : ℕ) (result : Result Record PairFault) → IfOk result (IsFound domain problem limit) → IfOk result IsLegalRecord
legal_record domain problem limit (Ok r) is =
    let legal : IsLegal r.task limit 1 r = plain_legal_record bounds r.task limit r is.plain in
    (1, subst (λ k. IsLegal r.task k 1 r) (sym legal.limit_is) legal)
legal_record domain problem limit (Err fault) is = tt

pub has_text : (domain problem : List ℕ) (limit : ℕ) (result : Result Record PairFault) → IfOk result (IsFound domain problem limit) → IfOk result HasText
has_text domain problem limit (Ok r) is = (is.answer, is.answered, λ e. subst (SaysOfPair domain problem r) e is.says)
has_text domain problem limit (Err fault) is = tt

pub ends : (domain problem : List ℕ) → length domain ≤ 2 ^ 30 → length problem ≤ 2 ^ 30 → (limit : ℕ) (result : Result Record PairFault) → IfOk result (IsFound domain problem limit) → IfErr result (IsFault domain problem)
    → EndsWith domain problem limit result
ends domain problem few_in_domain few_in_problem limit (Ok r) found fault =
    record {
      accepted = λ is. tt;
      with_room = room_decides domain problem few_in_domain few_in_problem limit r found;
      dead = dead_ends domain problem few_in_domain few_in_problem limit r found;
    }
ends domain problem few_in_domain few_in_problem limit (Err (Refused refusal)) found fault =
    record {
      accepted = λ is. absurd (no_refusal domain problem refusal is fault);
      with_room = λ task other room. tt;
      dead = λ task other dead. tt;
    }
ends domain problem few_in_domain few_in_problem limit (Err NoMemory) found fault =
    record { accepted = λ is. refl; with_room = λ task other room. tt; dead = λ task other dead. tt }
