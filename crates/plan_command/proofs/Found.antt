-- From a plain record of the task of a pair to what was found.
use Rattle.std.proofs.Common.{◌≡◌, ℕ, ◌<◌, ◌≤◌, ◌^◌, List, [], ◌∷◌, Option, Some, Bool, true, false, map, length, refl, sym, ap, subst, ◌∙◌, arith}
use Rattle.std.specs.List.{concat}
use Rattle.box_model.proofs.Closed.{no_plan}
use Rattle.dead_ends.proofs.NoPlan.{none_from}
use Rattle.dead_ends.proofs.Proved.{proved_good}
use Rattle.dead_ends.specs.Certificates.{IsGood, IsProved}
use Rattle.dead_ends.specs.Reachable.{initial_state}
use Rattle.ground_task.proofs.StateNumbers.{first_is_initial}
use Rattle.ground_task.specs.Placed.{IsPlaced}
use Rattle.ground_task.specs.Steps.{IsTaskPlan}
use Rattle.ground_task.specs.Tasks.{TaskValue}
use Rattle.pair_task.proofs.Tasks.{plan_back, plan_forward, readable_pair}
use Rattle.pair_task.specs.Tasks.{IsPlanOfTexts, IsTaskOf}
use Rattle.pddl_meaning.specs.Steps.{IsPlan}
use Rattle.plan_text.specs.declared.step.Step.{Step}
use Rattle.search_records.proofs.Meaning.{laws_at, legal_claims}
use Rattle.search_records.proofs.Plain.{plain_legal_record}
use Rattle.search_records.proofs.Sound.{sound}
use Rattle.search_records.specs.Claims.{Claims}
use Rattle.search_records.specs.Records.{IsLegal, IsPlain, answer_in, bounds, config_of}
use Rattle.search_records.specs.Spaces.{space_of}
use Rattle.search_records.specs.declared.record.Record.{Record}
use Rattle.search_runs.proofs.Places.{at_within}
use Rattle.search_runs.proofs.Theorem.{answers_mean}
use Rattle.search_runs.specs.Answers.{answer_of, closed_states, path_to}
use Rattle.search_runs.specs.Runs.{has_starve}
use Rattle.search_runs.specs.declared.answers.Answer.{Answer}
use Rattle.search_runs.specs.declared.answers.Answer.TheVariants as variant
use Rattle.answer_text.proofs.Path.{path_short}
use Rattle.answer_text.specs.Texts.{plan_lines}
use Rattle.plan_command.proofs.Names.{as_step}
use Rattle.plan_command.proofs.Printed.{plan_printed}
use Rattle.plan_command.specs.Found.{HasPlan, IsFound, PrintsPlan, SaysOfPair}

-- a step is a line of a plan, and back
steps_back : (steps : List (List ℕ × List (List ℕ))) → map (λ (step : Step). (step.name, step.args)) (map as_step steps) ≡ steps
steps_back [] = refl
steps_back (s ∷ steps) = ap (λ (ss : List (List ℕ × List (List ℕ))). s ∷ ss) (steps_back steps)

module _ (domain problem : List ℕ) (few_in_domain : length domain ≤ 2 ^ 30) (few_in_problem : length problem ≤ 2 ^ 30) (limit : ℕ) (r : Record) (is : IsTaskOf domain problem r.task) (plain : IsPlain r.task limit r) (unstarved : has_starve r.journal ≡ false) where
  placed : IsPlaced r.task.raw r.task.places
  placed = is.whole.whole.placed

  legal : IsLegal r.task limit 1 r
  legal = plain_legal_record bounds r.task limit r plain

  -- the path to a goal node isn't long
  short_path : (n : ℕ) → answer_in r ≡ Some (variant.Plan n) → length (path_to r.nodes n) < 2 ^ 64
  short_path n answered =
      let means = answers_mean (space_of r.task limit 1 bounds) (laws_at bounds (omega arith) (omega arith) r.task limit 1 placed) r.journal (config_of r) legal.run (variant.Plan n)
      (ap (λ k. answer_of k r.journal (config_of r)) (sym legal.limit_is) ∙ answered) in
      let there : n < length r.nodes = at_within r.nodes n means.1.node means.1.there in
      let kept = sound bounds (omega arith) (omega arith) (omega arith) (omega arith) r.task limit 1 placed r legal in
      let short = path_short r.nodes n in
      omega (arith, there, kept.few_nodes, short)

  -- its text is a plan of the pair
  prints : (n : ℕ) → answer_in r ≡ Some (variant.Plan n) → IsTaskPlan r.task (path_to r.nodes n) → PrintsPlan domain problem r (variant.Plan n)
  prints n answered plan =
      let path = path_to r.nodes n in
      let found = plan_back domain problem few_in_domain few_in_problem r.task is.whole path plan in
      let pair = found.1.0 in
      let readable = readable_pair domain problem few_in_domain few_in_problem pair found.1.1 in
      record {
        text = concat (plan_lines r.task path);
        steps = map as_step found.0;
        printed = (plan_lines r.task path, refl, refl);
        reads = plan_printed pair readable r.task path found.0 (short_path n answered) found.2 found.1.2;
        is_plan = (pair, found.1.1, subst (IsPlan pair) (sym (steps_back found.0)) found.1.2);
      }

  -- a certificate excludes plans of the pair
  none : IsProved r.task r.boxes (closed_states r.nodes) → HasPlan domain problem → ⊥
  none proved (steps, plan) =
      let good : IsGood r.task r.boxes (closed_states r.nodes) = proved_good r.task r.boxes (closed_states r.nodes) placed proved in
      let first = initial_state r.task in
      let found = plan_forward domain problem few_in_domain few_in_problem r.task is.whole steps plan first (first_is_initial r.task placed) in
      none_from r.task r.boxes (closed_states r.nodes) good (λ b s numbers dead contains leads. no_plan r.task b dead.a_box dead numbers s contains leads) found.0 first good.initial found.1

  says : (a : Answer) → answer_in r ≡ Some a → Claims r.task limit bounds r.journal (config_of r) a → SaysOfPair domain problem r a
  says (variant.Plan n) answered claims = prints n answered claims
  says variant.Exhausted answered claims = none claims.0
  says (variant.Over n place) answered claims = tt
  says variant.Expansions answered claims = tt
  says (variant.Filled full) answered claims = tt
  says variant.Starved answered claims = let bad : true ≡ false = sym claims ∙ unstarved in cc

  found_by : (a : Answer) → answer_in r ≡ Some a → IsFound domain problem limit r
  found_by a answered =
      let claims = legal_claims bounds (omega arith) (omega arith) r.task limit 1 r a placed legal answered in
      record { task = is; plain = plain; unstarved = unstarved; answer = a; answered = answered; claims = claims; says = says a answered claims }

  pub found_in : IsFound domain problem limit r
  found_in = found_by plain.run.1.0 (ap (λ k. answer_of k r.journal (config_of r)) plain.limit_is ∙ plain.run.1.1)

-- the record of a search of the task of the pair
pub found : (domain problem : List ℕ) → length domain ≤ 2 ^ 30 → length problem ≤ 2 ^ 30 → (limit : ℕ) (task : TaskValue) (r : Record) → IsTaskOf domain problem task → IsPlain task limit r → has_starve r.journal ≡ false
    → IsFound domain problem limit r
found domain problem few_in_domain few_in_problem limit task r is plain unstarved =
    let same : task ≡ r.task = sym plain.task_is in
    found_in domain problem few_in_domain few_in_problem limit r (subst (IsTaskOf domain problem) same is) (subst (λ (t : TaskValue). IsPlain t limit r) same plain) unstarved
