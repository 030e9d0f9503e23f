-- What the rules of each command keep.
use Rattle.std.proofs.Common.{◌≡◌, ℕ, ◌<◌, ◌≤◌, ◌^◌, zero, suc, List, [], ◌∷◌, Contains, Some, length, get_or, option_map, sym, subst, ap, ◌∙◌, arith}
use Rattle.answer_text.specs.Texts.{IsTextOf, status_of}
use Rattle.certify_command.specs.Answers as certify
use Rattle.certify_command.proofs.Ends as certify_ends
use Rattle.enhsp_words.specs.declared.job.Command.{Command}
use Rattle.enhsp_words.specs.declared.job.Command.TheVariants as command
use Rattle.enhsp_words.specs.declared.job.Job.{Job}
use Rattle.pair_task.proofs.OneAnswer.{no_refusal}
use Rattle.pair_task.specs.Tasks.{IsAccepted}
use Rattle.plan_command.proofs.Ends.{dead_ends, room_decides}
use Rattle.plan_command.specs.Ends as plan
use Rattle.plan_command.specs.Ends.{HasStatus}
use Rattle.plan_command.specs.Found.{IsFound, SaysOfPair}
use Rattle.relax_command.specs.Answers as relax
use Rattle.relax_command.proofs.Ends as relax_ends
use Rattle.run_answers.proofs.Statuses.{refused_status}
use Rattle.search_records.specs.declared.record.Record.{Record}
use Rattle.search_runs.specs.declared.answers.Answer.{Answer}
use Rattle.search_runs.specs.declared.answers.Answer.TheVariants as variant
use Rattle.task_gen.specs.Counters.{domain_text, problem_text}
use Rattle.upgrade_command.specs.Answers as upgrade
use Rattle.upgrade_command.proofs.Ends as upgrade_ends
use Rattle.validate_command.specs.Answers as validate
use Rattle.validate_command.proofs.Ends as validate_ends
use Rattle.enhsp_run.specs.Certificates.{Certifies}
use Rattle.enhsp_run.specs.Commands.{CommandRules, Entry, Finds, OfNone, OfPair, OfThree, Plainly, entry_of, generate_rules, plan_rules}
use Rattle.enhsp_run.specs.Commands.Entry.{Built, Unbuilt}
use Rattle.enhsp_run.specs.Searches.{Decides, SearchEnds}
use Rattle.enhsp_run.specs.Told.{IsSummaryOf, TextOf, TellsRecord, Told}
use Rattle.enhsp_run.specs.Told.TellsSearch.{found, refusal}

-- what is told of texts ends by a verdict, or as a refusal, and what is told of accepted texts as the command's own
pub record Keeps (rules : CommandRules) : Type 0 where
  pub known : (job : Job) (texts : List (List ℕ)) (told : Told) → rules.IsAnswer job texts told → told.status ≤ 4
  pub accepted : (job : Job) (texts : List (List ℕ)) (told : Told) → rules.IsAccepted job texts → rules.IsAnswer job texts told → rules.EndsWith job texts told.status

-- ---- statuses

small : (k n : ℕ) → k < 4 → get_or (0 ∷ 1 ∷ 3 ∷ 4 ∷ []) k n ≤ 4
small zero n lt = omega arith
small (suc zero) n lt = omega arith
small (suc (suc zero)) n lt = omega arith
small (suc (suc (suc zero))) n lt = omega arith
small (suc (suc (suc (suc k)))) n lt = absurd (omega arith)

at_most_four : (n : ℕ) → Contains (0 ∷ 1 ∷ 3 ∷ 4 ∷ []) n → n ≤ 4
at_most_four n is = subst (λ (m : ℕ). m ≤ 4) is.2 (small is.0 n is.1)

-- ---- texts of files

none_only : (Q : List (List ℕ) → Type 0) (P : Type 0) (texts : List (List ℕ)) → (P → Q []) → OfNone P texts → Q texts
none_only Q P [] more is = more is
none_only Q P (d ∷ texts) more is = absurd is

pair_only : (Q : List (List ℕ) → Type 0) (P : List ℕ → List ℕ → Type 0) (texts : List (List ℕ)) → ((d p : List ℕ) → P d p → Q (d ∷ p ∷ [])) → OfPair P texts → Q texts
pair_only Q P (d ∷ p ∷ []) more is = more d p is
pair_only Q P [] more is = absurd is
pair_only Q P (d ∷ []) more is = absurd is
pair_only Q P (d ∷ p ∷ q ∷ texts) more is = absurd is

three_only : (Q : List (List ℕ) → Type 0) (P : List ℕ → List ℕ → List ℕ → Type 0) (texts : List (List ℕ)) → ((d p q : List ℕ) → P d p q → Q (d ∷ p ∷ q ∷ [])) → OfThree P texts → Q texts
three_only Q P (d ∷ p ∷ q ∷ []) more is = more d p q is
three_only Q P [] more is = absurd is
three_only Q P (d ∷ []) more is = absurd is
three_only Q P (d ∷ p ∷ []) more is = absurd is
three_only Q P (d ∷ p ∷ q ∷ r ∷ texts) more is = absurd is

-- ---- searches

-- a record that is found tells how it ends
small_answer : (d p : List ℕ) (r : Record) (a : Answer) → SaysOfPair d p r a → status_of a ≤ 3
small_answer d p r (variant.Plan n) says = omega arith
small_answer d p r variant.Exhausted says = omega arith
small_answer d p r (variant.Over n place) says = omega arith
small_answer d p r variant.Expansions says = omega arith
small_answer d p r (variant.Filled full) says = omega arith
small_answer d p r variant.Starved says = absurd says

module _ (IsText : TextOf) (d p : List ℕ) (limit : ℕ) (r : Record) (told : Told) (is : IsFound d p limit r) (tells : TellsRecord IsText r told) where
  same_answer : tells.answer ≡ is.answer
  same_answer = let same : Some tells.answer ≡ Some is.answer = sym tells.is_answer ∙ is.answered in cc same

  pub small_status : told.status ≤ 3
  small_status =
      let small : status_of is.answer ≤ 3 = small_answer d p r is.answer is.says in
      subst (λ (n : ℕ). n ≤ 3) (sym (tells.status ∙ ap status_of same_answer)) small

  status_is : (n : ℕ) → HasStatus n r → told.status ≡ n
  status_is n has =
      let same : Some (status_of tells.answer) ≡ Some n = ap (option_map status_of) (sym tells.is_answer) ∙ has in
      tells.status ∙ cc same

  decides : plan.Decides d p r → Decides d p told.status
  decides (plan.Decides.solved has status) = subst (Decides d p) (sym (status_is 0 status)) (Decides.solved has)
  decides (plan.Decides.unsolvable none status) = subst (Decides d p) (sym (status_is 1 status)) (Decides.unsolvable none)

  pub found_ends : length d ≤ 2 ^ 30 → length p ≤ 2 ^ 30 → SearchEnds d p limit told.status
  found_ends few fewer =
      record {
        known = small_status;
        with_room = λ task of room. decides (room_decides d p few fewer limit r is task of room);
        dead = λ task of dead. status_is 1 (dead_ends d p few fewer limit r is task of dead);
      }

search_known : (IsText : TextOf) (d p : List ℕ) (limit : ℕ) (told : Told) → Finds IsText limit told d p → told.status ≤ 4
search_known IsText d p limit told (found r t is tells) = omega (arith, small_status IsText d p limit r t is tells)
search_known IsText d p limit told (refusal r is) = omega (arith, refused_status r)

search_ends : (IsText : TextOf) (d p : List ℕ) (limit : ℕ) (told : Told) → IsAccepted d p → Finds IsText limit told d p → SearchEnds d p limit told.status
search_ends IsText d p limit told accepted (found r t is tells) = found_ends IsText d p limit r t is tells accepted.few_in_domain accepted.few_in_problem
search_ends IsText d p limit told accepted (refusal r is) = absurd (no_refusal d p r accepted is)

-- ---- the commands

relax_known : (texts : List (List ℕ)) (told : Told) → OfPair (λ d p. Plainly (relax.IsAnswer d p) told) texts → told.status ≤ 4
relax_known texts told =
    pair_only (λ ts. told.status ≤ 4) (λ d p. Plainly (relax.IsAnswer d p) told) texts
    (λ d p is. subst (λ (t : Told). t.status ≤ 4) (sym is.2) (at_most_four is.0.status (relax_ends.known_status d p is.0 is.1)))

relax_accepted : (texts : List (List ℕ)) (told : Told) → OfPair relax.IsAccepted texts → OfPair (λ d p. Plainly (relax.IsAnswer d p) told) texts → Contains relax.statuses told.status
relax_accepted texts told =
    pair_only (λ ts. OfPair (λ d p. Plainly (relax.IsAnswer d p) told) ts → Contains relax.statuses told.status) relax.IsAccepted texts
    (λ d p accepted is. subst (λ (t : Told). Contains relax.statuses t.status) (sym is.2) (relax_ends.accepted_status d p is.0 accepted is.1))

validate_known : (texts : List (List ℕ)) (told : Told) → OfThree (λ d p q. Plainly (validate.IsAnswer d p q) told) texts → told.status ≤ 4
validate_known texts told =
    three_only (λ ts. told.status ≤ 4) (λ d p q. Plainly (validate.IsAnswer d p q) told) texts
    (λ d p q is. subst (λ (t : Told). t.status ≤ 4) (sym is.2) (at_most_four is.0.status (validate_ends.known_status d p q is.0 is.1)))

validate_accepted : (texts : List (List ℕ)) (told : Told) → OfThree validate.IsAccepted texts → OfThree (λ d p q. Plainly (validate.IsAnswer d p q) told) texts → Contains validate.statuses told.status
validate_accepted texts told =
    three_only (λ ts. OfThree (λ d p q. Plainly (validate.IsAnswer d p q) told) ts → Contains validate.statuses told.status) validate.IsAccepted texts
    (λ d p q accepted is. subst (λ (t : Told). Contains validate.statuses t.status) (sym is.2) (validate_ends.accepted_status d p q is.0 accepted is.1))

-- what `certify` tells of texts
abbrev MayCertify : Told → List ℕ → List ℕ → List ℕ → Type 0
MayCertify told d p c = Plainly (certify.IsAnswer d p c) told × Certifies d p c told.status

certify_known : (texts : List (List ℕ)) (told : Told) → OfThree (MayCertify told) texts → told.status ≤ 4
certify_known texts told =
    three_only (λ ts. told.status ≤ 4) (MayCertify told) texts
    (λ d p c is. subst (λ (t : Told). t.status ≤ 4) (sym is.0.2) (at_most_four is.0.0.status (certify_ends.known_status d p c is.0.0 is.0.1)))

certify_accepted : (texts : List (List ℕ)) (told : Told) → OfThree certify.IsAccepted texts → OfThree (MayCertify told) texts → OfThree (λ d p c. Contains certify.statuses told.status × Certifies d p c told.status) texts
certify_accepted texts told =
    three_only (λ ts. OfThree (MayCertify told) ts → OfThree (λ d p c. Contains certify.statuses told.status × Certifies d p c told.status) ts) certify.IsAccepted texts
    (λ d p c accepted is. (subst (λ (t : Told). Contains certify.statuses t.status) (sym is.0.2) (certify_ends.accepted_status d p c is.0.0 accepted is.0.1), is.1))

upgrade_known : (texts : List (List ℕ)) (told : Told) → OfThree (λ d p c. Plainly (upgrade.IsAnswer d p c) told) texts → told.status ≤ 4
upgrade_known texts told =
    three_only (λ ts. told.status ≤ 4) (λ d p c. Plainly (upgrade.IsAnswer d p c) told) texts
    (λ d p c is. subst (λ (t : Told). t.status ≤ 4) (sym is.2) (at_most_four is.0.status (upgrade_ends.known_status d p c is.0 is.1)))

upgrade_accepted : (texts : List (List ℕ)) (told : Told) → OfThree upgrade.IsAccepted texts → OfThree (λ d p c. Plainly (upgrade.IsAnswer d p c) told) texts → Contains upgrade.statuses told.status
upgrade_accepted texts told =
    three_only (λ ts. OfThree (λ d p c. Plainly (upgrade.IsAnswer d p c) told) ts → Contains upgrade.statuses told.status) upgrade.IsAccepted texts
    (λ d p c accepted is. subst (λ (t : Told). Contains upgrade.statuses t.status) (sym is.2) (upgrade_ends.accepted_status d p c is.0 accepted is.1))

plan_known : (job : Job) (texts : List (List ℕ)) (told : Told) → plan_rules.IsAnswer job texts told → told.status ≤ 4
plan_known job texts told =
    pair_only (λ ts. told.status ≤ 4) (Finds IsTextOf job.limit told) texts (λ d p is. search_known IsTextOf d p job.limit told is)

plan_accepted : (job : Job) (texts : List (List ℕ)) (told : Told) → plan_rules.IsAccepted job texts → plan_rules.IsAnswer job texts told → plan_rules.EndsWith job texts told.status
plan_accepted job texts told =
    pair_only (λ ts. plan_rules.IsAnswer job ts told → plan_rules.EndsWith job ts told.status) IsAccepted texts
    (λ d p accepted is. search_ends IsTextOf d p job.limit told accepted is)

generate_known : (job : Job) (texts : List (List ℕ)) (told : Told) → generate_rules.IsAnswer job texts told → told.status ≤ 4
generate_known job texts told =
    none_only (λ ts. told.status ≤ 4) (Finds (IsSummaryOf job.size) job.limit told domain_text (problem_text job.size)) texts
    (search_known (IsSummaryOf job.size) domain_text (problem_text job.size) job.limit told)

generate_accepted : (job : Job) (texts : List (List ℕ)) (told : Told) → generate_rules.IsAccepted job texts → generate_rules.IsAnswer job texts told → generate_rules.EndsWith job texts told.status
generate_accepted job texts told =
    none_only (λ ts. generate_rules.IsAnswer job ts told → generate_rules.EndsWith job ts told.status) (IsAccepted domain_text (problem_text job.size)) texts
    (λ accepted is. search_ends (IsSummaryOf job.size) domain_text (problem_text job.size) job.limit told accepted is)

abbrev pub KeepsBuilt : Entry → Type 0
KeepsBuilt Unbuilt = Unit {0}
KeepsBuilt (Built rules) = Keeps rules

pub keeps : (c : Command) → KeepsBuilt (entry_of c)
keeps command.Plan = record { known = plan_known; accepted = plan_accepted }
keeps command.Relax = record { known = λ job. relax_known; accepted = λ job. relax_accepted }
keeps command.Validate = record { known = λ job. validate_known; accepted = λ job. validate_accepted }
keeps command.Generate = record { known = generate_known; accepted = generate_accepted }
keeps command.Certify = record { known = λ job. certify_known; accepted = λ job. certify_accepted }
keeps command.Upgrade = record { known = λ job. upgrade_known; accepted = λ job. upgrade_accepted }
keeps command.Adl = tt
keeps command.Expand = tt
keeps command.Optimal = tt
keeps command.CertifyCost = tt
keeps command.Steps = tt
keeps command.Look = tt
