-- The text of an exhausted record reads as a certificate that is proved.
use Rattle.std.proofs.Common.{◌≡◌, ℕ, suc, ◌≤◌, List, [], ◌∷◌, ◌++◌, Some, None, All, length, map, refl, sym, ap, ◌∙◌, subst, arith, inl, inr}
use Rattle.std.specs.List.{concat}
use Rattle.std.specs.List.Sorted.{IsPermutation}
use Rattle.std.proofs.lemmas.List.Sorted.{All-permutation, IsPermutation-sym, length_permutation}
use Rattle.std.proofs.lemmas.Option.{get_or_from_slice_get, slice_get_within}
use Rattle.num_ends.specs.Decimal.{InRange}
use Rattle.ground_task.proofs.Agreement.{blocked_leads_nowhere, only_next}
use Rattle.ground_task.proofs.FirstState.{All-first_number}
use Rattle.ground_task.proofs.StateNumbers.{first_is_initial, step_keeps_sizes}
use Rattle.ground_task.specs.Placed.{IsPlaced}
use Rattle.ground_task.specs.States.{StateValue}
use Rattle.ground_task.specs.Steps.{StepLeads}
use Rattle.ground_task.specs.Tasks.{AreFirstInRange, IsStateOf, TaskValue}
use Rattle.ground_task.specs.Valid.{IsValid}
use Rattle.box_model.specs.Boxes.{IsBoxOf}
use Rattle.box_model.specs.Least.{IsDead}
use Rattle.box_model.specs.declared.state_box.StateBox.{StateBox}
use Rattle.cert_text.specs.declared.cert.Cert.{Cert}
use Rattle.cert_reader.specs.Certificates.{ReadsAs}
use Rattle.dead_ends.proofs.NoPlan.{walk_on}
use Rattle.cert_check.specs.Checks.{IsChecked, IsRefused}
use Rattle.cert_check.specs.declared.answers.Checked.{Checked}
use Rattle.cert_check.specs.declared.answers.Checked.TheVariants.{Certified, Refused}
use Rattle.cert_check.specs.declared.answers.Reason.{Reason}
use Rattle.dead_ends.proofs.Proved.{proved_good, proved_nowhere_over, step_known}
use Rattle.dead_ends.specs.Certificates.{IsCovered, IsGood, IsNowhereOver, IsProved}
use Rattle.dead_ends.specs.Reachable.{IsLive, IsLiveReachable, initial_state}
use Rattle.search_runs.proofs.Holds.{Holds}
use Rattle.search_runs.proofs.Whole.{runs_hold}
use Rattle.search_runs.specs.Answers.{closed_states, if_closed}
use Rattle.search_runs.specs.Spaces.{IsListed}
use Rattle.search_runs.specs.Walks.{WalkThrough}
use Rattle.search_runs.specs.declared.answers.Answer.TheVariants as answer
use Rattle.search_runs.specs.declared.nodes.Node.{Node}
use Rattle.search_runs.specs.declared.nodes.Status.{Status}
use Rattle.search_runs.specs.declared.nodes.Status.TheVariants.{Waiting, Taken, Closed, Goal, Dead}
use Rattle.search_records.proofs.Meaning.{laws_at, legal_claims}
use Rattle.search_records.proofs.Sound.{all_at}
use Rattle.search_records.specs.Claims.{Claims}
use Rattle.search_records.specs.Records.{IsLegal, answer_in, bounds, config_of}
use Rattle.search_records.specs.Spaces.{space_of}
use Rattle.search_records.specs.declared.record.Record.{Record}
use Rattle.answer_text.specs.Texts.{AreSorted, certificate_lines, certificate_text}
use Rattle.read_back.specs.Certificates.{IsExhaustedText, IsWritable, trimmed_box}
use Rattle.read_back.proofs.InRange.{next_ranged}
use Rattle.read_back.proofs.SameBoxes.{same_dead}
use Rattle.read_back.proofs.SameGoods.{box_before, covered_trimmed}
use Rattle.read_back.proofs.Texts.{certificate_reads}

-- ---- lists

listed_permuted : {X : Type 0} (xs ys : List X) (x : X) → IsPermutation xs ys → IsListed ys x → IsListed xs x
listed_permuted xs ys x same (n, at) =
    let own : All (IsListed xs) xs = all_at (IsListed xs) xs (λ m y there. (m, there)) in
    let all : All (IsListed xs) ys = All-permutation (IsListed xs) xs ys same own in
    subst (IsListed xs) (get_or_from_slice_get ys n x x at) (all n x (slice_get_within ys n x at))

few_closed : (nodes : List (Node StateValue)) → length (closed_states nodes) ≤ length nodes
few_closed [] = omega arith
few_closed (x ∷ nodes) = by x.status (few_closed nodes)
  where
    by : (st : Status) → length (closed_states nodes) ≤ length nodes → length (if_closed st x.state (closed_states nodes)) ≤ suc (length nodes)
    by (Waiting h) few = omega (arith, few)
    by (Taken w) few = omega (arith, few)
    by Closed few = omega (arith, few)
    by Goal few = omega (arith, few)
    by (Dead b) few = omega (arith, few)

-- ---- other lists of the same

module _ (t : TaskValue) (boxes : List StateBox) (states sorted : List StateValue) (same : IsPermutation states sorted) where
  covered_too : (s : StateValue) → IsCovered t boxes states s → IsCovered t (map trimmed_box boxes) sorted s
  covered_too s (inl listed) = inl (listed_permuted sorted states s (IsPermutation-sym states sorted same) listed)
  covered_too s (inr in_box) = covered_trimmed t boxes sorted s (inr in_box)

  proved_too : IsProved t boxes states → IsProved t (map trimmed_box boxes) sorted
  proved_too is = record {
    dead = λ b box at.
        let (c, there, is_trimmed) = box_before boxes b box at in
        subst (IsDead t) (sym is_trimmed) (same_dead t c (is.dead b c there));
    misses = λ s listed. is.misses s (listed_permuted states sorted s same listed);
    steps = λ s a listed known.
        elim (is.steps s a (listed_permuted states sorted s same listed) known) [
          | inl blocked ↦ inl blocked
          | inr (next, is_next, covered) ↦ inr (next, is_next, covered_too next covered)
        ];
    initial = covered_too (initial_state t) is.initial;
  }

-- ---- states that are reached

-- a state of the task, its numbers in range
abbrev IsKept : TaskValue → StateValue → Type 0
IsKept t s = IsStateOf t s × All InRange s.values

module _ (t : TaskValue) (placed : IsPlaced t.raw t.places) (boxes : List StateBox) (states : List StateValue) (is : IsProved t boxes states)
    (reached : (s : StateValue) → IsLiveReachable t s → IsListed states s) where
  one_kept : (p next : StateValue) (a : ℕ) → IsLiveReachable t p → StepLeads t a p next → IsKept t p → IsKept t next
  one_kept p next a here leads kept = (
    step_keeps_sizes t p next a kept.0 leads,
    elim (is.steps p a (reached p here) (step_known t a p next leads)) [
      | inl blocked ↦ absurd (blocked_leads_nowhere t p a next blocked leads)
      | inr (found, is_next, covered) ↦
          subst (λ (s : StateValue). All InRange s.values) (sym (only_next t p a found next placed is_next leads))
          (next_ranged t p found a placed is_next kept.1)
    ],
  )

  first_live : (rest : List ℕ) (p s : StateValue) → WalkThrough (IsLive t) (StepLeads t) rest p s → IsLive t p
  first_live [] p s w = w.0
  first_live (a ∷ rest) p s w = w.0

  -- a walk goes on from a kept state to kept ones
  kept_along : (done rest : List ℕ) (p s : StateValue) → WalkThrough (IsLive t) (StepLeads t) done (initial_state t) p → IsKept t p
      → WalkThrough (IsLive t) (StepLeads t) rest p s → IsKept t s
  kept_along done [] p s before kept w = subst (IsKept t) w.1 kept
  kept_along done (a ∷ rest) p s before kept (live, (next, leads, more)) =
      kept_along (done ++ a ∷ []) rest next s
      (walk_on (IsLive t) (StepLeads t) done (initial_state t) p next a before leads (first_live rest next s more))
      (one_kept p next a (done, before) leads kept) more

  reached_kept : AreFirstInRange t.places t.raw.values (length t.raw.fluents) → (s : StateValue) → IsLiveReachable t s → IsKept t s
  reached_kept fits s (actions, walk) =
      kept_along [] actions (initial_state t) s (first_live actions (initial_state t) s walk, refl)
      ((first_is_initial t placed).sizes, All-first_number t.places t.raw.values (length t.raw.fluents) fits) walk

-- ---- records

module _ (t : TaskValue) (valid : IsValid t.raw) (placed : IsPlaced t.raw t.places) (fits : AreFirstInRange t.places t.raw.values (length t.raw.fluents))
    (limit workers : ℕ) (r : Record) (legal : IsLegal t limit workers r) (found : answer_in r ≡ Some answer.Exhausted)
    (sorted : List StateValue) (is_sorted : AreSorted (closed_states r.nodes) sorted) where
  abbrev closed : List StateValue
  closed = closed_states r.nodes

  abbrev cert : Cert
  cert = record { boxes = r.boxes; states = sorted }

  claims : Claims t limit bounds r.journal (config_of r) answer.Exhausted
  claims = legal_claims bounds (omega arith) (omega arith) t limit workers r answer.Exhausted placed legal found

  holds : Holds (space_of t limit workers bounds) r.journal (config_of r) None
  holds = runs_hold (space_of t limit workers bounds) (laws_at bounds (omega arith) (omega arith) t limit workers placed) r.journal (config_of r) legal.run

  kept : All (IsKept t) closed
  kept = all_at (IsKept t) closed (λ n s at.
      reached_kept t placed r.boxes closed claims.0 (λ u live. (claims.1 u).0 live) fits s ((claims.1 s).1 (n, at)))

  sorted_kept : All (IsKept t) sorted
  sorted_kept = All-permutation (IsKept t) closed sorted is_sorted.same kept

  writable : IsWritable t cert
  writable = record {
    boxes = all_at (IsBoxOf t) r.boxes (λ n b at. (claims.0.dead n b at).a_box);
    states = λ k d l. (sorted_kept k d l).0;
    in_range = λ k d l. (sorted_kept k d l).1;
    few_boxes = holds.counted.boxes;
    few_states = omega (arith, length_permutation closed sorted is_sorted.same, few_closed r.nodes, holds.counted.states);
  }

  pub record_reads : ReadsAs t (certificate_text t cert) (map trimmed_box r.boxes) sorted
  record_reads = certificate_reads t cert valid placed writable

  pub record_proved : IsProved t (map trimmed_box r.boxes) sorted
  record_proved = proved_too t r.boxes closed sorted is_sorted.same claims.0

-- what the text of an exhausted record reads as
pub record IsReadProved (t : TaskValue) (text : List ℕ) : Type 0 where
  pub boxes : List StateBox
  pub states : List StateValue
  pub reads : ReadsAs t text boxes states
  pub proved : IsProved t boxes states

pub exhausted_reads : (t : TaskValue) (text : List ℕ) → IsValid t.raw → IsPlaced t.raw t.places → AreFirstInRange t.places t.raw.values (length t.raw.fluents)
    → IsExhaustedText t text → IsReadProved t text
exhausted_reads t text valid placed fits is =
    let r = is.source in
    let (lines, (sorted, is_sorted, lines_are), spelled) = is.is_text in
    let written : text ≡ certificate_text t (record { boxes = r.boxes; states = sorted }) =
    spelled ∙ ap concat lines_are ∙ ap (λ (k : TaskValue). concat (certificate_lines k r.boxes sorted)) is.legal.task_is in
    record {
      boxes = map trimmed_box r.boxes;
      states = sorted;
      reads = subst (λ (x : List ℕ). ReadsAs t x (map trimmed_box r.boxes) sorted) (sym written)
          (record_reads t valid placed fits is.limit is.workers r is.legal is.exhausted sorted is_sorted);
      proved = record_proved t valid placed fits is.limit is.workers r is.legal is.exhausted sorted is_sorted;
    }

-- equal boxes and states are good as well
pub good_as_well : (t : TaskValue) (boxes others : List StateBox) (states further : List StateValue) → boxes ≡ others → states ≡ further
    → IsPlaced t.raw t.places → IsProved t boxes states → IsGood t others further × IsNowhereOver t further
good_as_well t boxes others states further same also placed is =
    let proved : IsProved t others further =
    subst (λ (xs : List StateBox). IsProved t xs further) same (subst (λ (xs : List StateValue). IsProved t boxes xs) also is) in
    (proved_good t others further placed proved, proved_nowhere_over t others further proved)

-- an answer that isn't a refusal
pub certified_only : (t : TaskValue) (boxes : List StateBox) (states : List StateValue) (checked : Checked)
    → ((line : ℕ) (reason : Reason) → IsRefused t boxes states line reason → ⊥) → IsChecked t boxes states checked → checked ≡ Certified
certified_only t boxes states Certified none is = refl
certified_only t boxes states (Refused line reason) none is = absurd (none line reason is)
