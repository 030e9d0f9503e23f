-- The texts of the answers of searches, line by line.
use Rattle.std.specs.Prelude.{ℕ, ◌≡◌, ◌≢◌, ◌≤◌, List, [], ◌∷◌, ◌++◌, All, Some, codes, decimal, length, map, option_map, slice_get, unwrap_or}
use Rattle.std.specs.List.{concat}
use Rattle.std.specs.List.Sorted.{IsPermutation, IsSorted}
use Rattle.ground_task.specs.Orders.{state_cmp}
use Rattle.ground_task.specs.States.{StateValue}
use Rattle.ground_task.specs.Tasks.{IsStateOf, TaskValue}
use Rattle.box_model.specs.Boxes.{IsBoxOf}
use Rattle.box_model.specs.declared.state_box.StateBox.{StateBox}
use Rattle.cert_text.specs.Lines.{short_box_line, state_line}
use Rattle.cert_text.specs.declared.cert.Cert.{Cert}
use Rattle.search_runs.specs.Answers.{closed_states, path_to}
use Rattle.search_runs.specs.declared.answers.Answer.{Answer}
use Rattle.search_runs.specs.declared.answers.Answer.TheVariants as answer
use Rattle.search_runs.specs.declared.answers.Full.{Full}
use Rattle.search_runs.specs.declared.answers.Full.TheVariants.{States, Boxes}
use Rattle.search_runs.specs.declared.answers.Site.{Site}
use Rattle.search_runs.specs.declared.answers.Site.TheVariants as site
use Rattle.search_records.specs.Records.{answer_in}
use Rattle.search_records.specs.declared.record.Record.{Record}

-- the name and the objects of a ground action, in brackets
abbrev pub action_text : TaskValue → ℕ → List ℕ
action_text t a = unwrap_or (option_map (λ action. action.name) (slice_get t.raw.actions a)) []

abbrev pub step_line : TaskValue → ℕ → List ℕ
step_line t a = action_text t a ++ codes "\n"

-- the number of steps, and each step
abbrev pub plan_lines : TaskValue → List ℕ → List (List ℕ)
plan_lines t path = (codes "; PLAN " ++ decimal (length path) ++ codes "\n") ∷ map (step_line t) path

abbrev pub site_text : TaskValue → Site → List ℕ
site_text t site.Goal = codes "goal"
site_text t (site.Action a) = action_text t a

-- what leaves the range of numbers, and the steps that lead there
abbrev pub overflow_lines : TaskValue → List ℕ → Site → List (List ℕ)
overflow_lines t path place =
    (codes "OVERFLOW " ++ site_text t place ++ codes "\n") ∷ map (step_line t) path

-- what a certificate says: its boxes, its states, and that this is all
abbrev pub claim_lines : TaskValue → List StateBox → List StateValue → List (List ℕ)
claim_lines t boxes states =
    map (short_box_line t.raw) boxes ++ (map (state_line t) states ++ codes "end\n" ∷ [])

-- a certificate in version 2
abbrev pub certificate_lines : TaskValue → List StateBox → List StateValue → List (List ℕ)
certificate_lines t boxes states = codes "UNSOLVABLE 2\n" ∷ claim_lines t boxes states

-- the text of a certificate in version 2, its boxes and states in their order
abbrev pub certificate_text : TaskValue → Cert → List ℕ
certificate_text t cert = concat (certificate_lines t cert.boxes cert.states)

-- Its boxes and states are those of the task, and they can be counted.
pub record IsCertOf (t : TaskValue) (cert : Cert) : Type 0 where
  pub boxes : All (IsBoxOf t) cert.boxes
  pub states : All (IsStateOf t) cert.states
  pub few_boxes : length cert.boxes ≤ 1000000000
  pub few_states : length cert.states ≤ 1000000000

-- these states in the order of states
pub record AreSorted (states sorted : List StateValue) : Type 0 where
  pub same : IsPermutation states sorted
  pub in_order : IsSorted state_cmp sorted

-- what the search had no room for
abbrev pub full_line : Full → List ℕ
full_line States = codes "LIMIT states 500000\n"
full_line Boxes = codes "LIMIT boxes 40000\n"

-- the lines of the answer: the path to the goal node; the kept boxes and the states of the closed nodes; what leaves the
-- range of numbers, and the path to its node; what the search ran out of; nothing where a worker starved
abbrev pub AreLines : Record → Answer → List (List ℕ) → Type 0
AreLines r (answer.Plan n) lines = lines ≡ plan_lines r.task (path_to r.nodes n)
AreLines r answer.Exhausted lines =
    (sorted : List StateValue) × AreSorted (closed_states r.nodes) sorted × (lines ≡ certificate_lines r.task r.boxes sorted)
AreLines r (answer.Over n place) lines = lines ≡ overflow_lines r.task (path_to r.nodes n) place
AreLines r answer.Expansions lines = lines ≡ (codes "LIMIT expansions " ++ decimal r.limit ++ codes "\n") ∷ []
AreLines r (answer.Filled full) lines = lines ≡ full_line full ∷ []
AreLines r answer.Starved lines = ⊥

-- the text of the answer
abbrev pub IsTextOf : Record → Answer → List ℕ → Type 0
IsTextOf r a text = (lines : List (List ℕ)) × AreLines r a lines × (text ≡ concat lines)

-- the record has an answer that has a text
abbrev pub HasText : Record → Type 0
HasText r = (a : Answer) × (answer_in r ≡ Some a) × (a ≢ answer.Starved)

-- ---- a generated task

-- the status that the program ends with
abbrev pub status_of : Answer → ℕ
status_of (answer.Plan n) = 0
status_of answer.Exhausted = 1
status_of answer.Expansions = 2
status_of (answer.Filled full) = 2
status_of (answer.Over n place) = 3
status_of answer.Starved = 8

-- the size of the task, and the status of its search
unfoldable pub search_text : ℕ → ℕ → List ℕ
search_text size status = codes "GENERATED size " ++ decimal size ++ codes " status " ++ decimal status

-- how many states and boxes it kept
unfoldable pub kept_text : Record → List ℕ
kept_text r = codes " states " ++ decimal (length r.nodes) ++ codes " boxes " ++ decimal (length r.boxes)

-- how many facts, fluents and actions the task has
unfoldable pub task_text : TaskValue → List ℕ
task_text t =
    codes " facts " ++ decimal (length t.raw.facts) ++ codes " fluents " ++ decimal (length t.raw.fluents)
    ++ codes " actions " ++ decimal (length t.raw.actions)

abbrev pub summary_line : ℕ → Record → Answer → List ℕ
summary_line size r a = search_text size (status_of a) ++ kept_text r ++ task_text r.task ++ codes "\n"
