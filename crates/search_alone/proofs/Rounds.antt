-- A round of a search by one worker.
use Rattle.std.proofs.Common.{◌≡◌, ◌++◌, List, ◌∷◌, [], ℕ, true, false, Option, None, Some, sym, ap, subst, ◌∙◌, refl}
use Rattle.std.specs.Prelude.{Result, Ok, Err, IfOk, IsSome}
use Rattle.ground_task.specs.States.{StateValue}
use Rattle.ground_task.specs.Tasks.{TaskValue}
use Rattle.explored.specs.declared.classes.Most.{Most}
use Rattle.box_model.specs.declared.state_box.StateBox.{StateBox}
use Rattle.search_nodes.specs.Tables.{config_of}
use Rattle.search_runs.proofs.Marks.{takes-Give, takes-Take}
use Rattle.search_runs.proofs.Places.{at_changed}
use Rattle.search_runs.specs.Nodes.{Config, with_status}
use Rattle.search_runs.specs.Runs.{count_takes, has_starve}
use Rattle.search_runs.specs.Spaces.{IsAt}
use Rattle.search_runs.specs.declared.answers.Answer.{Answer}
use Rattle.search_runs.specs.declared.events.Event.{Event}
use Rattle.search_runs.specs.declared.events.Event.TheVariants.{Give, Start, Starve, Take}
use Rattle.search_runs.specs.declared.nodes.Node.{Node}
use Rattle.search_runs.specs.declared.nodes.Status.TheVariants as standing
use Rattle.search_turns.proofs.Counting.{starve_Take}
use Rattle.search_turns.specs.Turns.{SameTerms, Turns, answer_in}
use Rattle.search_core.proofs.Alone.{plain_expansion, plain_record}
use Rattle.search_core.specs.Records.{record_of}
use Rattle.search_core.specs.Searches.{HasTaken, IsBegun, IsEvent, IsPlainSearch, IsPlainlyGiven}
use Rattle.search_records.specs.Records.{bounds}
use Rattle.search_records.specs.declared.record.Record.{Record}
use Rattle.search_alone.specs.Found.{IsFound}
use Rattle.search_alone.specs.Rounds.{IsFed, IsRound}
use Rattle.search_alone.proofs.Answered.{not_starved}

-- a Give isn't a Starve
pub starve_Give : (j : List Event) (w n : ℕ) → has_starve (j ++ Give w n ∷ []) ≡ has_starve j
starve_Give [] w n = refl
starve_Give (Start ∷ j) w n = starve_Give j w n
starve_Give (Take v m ∷ j) w n = starve_Give j w n
starve_Give (Give v m ∷ j) w n = starve_Give j w n
starve_Give (Starve v ∷ j) w n = refl

pub same_terms : (old mid new : Turns) → SameTerms old mid → SameTerms mid new → SameTerms old new
same_terms old mid new first second = record {
  task = second.task ∙ first.task;
  most = second.most ∙ first.most;
  limit = second.limit ∙ first.limit;
  workers = second.workers ∙ first.workers;
}

pub same_itself : (v : Turns) → SameTerms v v
same_itself v = record { task = refl; most = refl; limit = refl; workers = refl }

-- the node that was taken, with its state
pub has_taken : (w n : ℕ) (s : StateValue) (old mid : Turns) → IsEvent (Take w n) old mid → ((x : Node StateValue) × IsAt old.table.nodes n x × (x.state ≡ s)) → HasTaken w n s mid
has_taken w n s old mid taken (x, there, state) =
    let changed_is : IsAt (with_status old.table.nodes n (standing.Taken w)) n (record x { status = standing.Taken w }) = at_changed old.table.nodes n (standing.Taken w) x there in
    record {
      node = record x { status = standing.Taken w };
      there = subst (λ (d : Config StateValue StateBox). IsAt d.nodes n (record x { status = standing.Taken w })) (sym taken.leads.after) changed_is;
      is_taken = refl;
      state = state;
    }

-- a node is taken and expanded
pub round_more : (n : ℕ) (old mid new : Turns) → IsFed old → IsEvent (Take 0 n) old mid → IsEvent (Give 0 n) mid new → IsPlainlyGiven 0 n mid new → IsRound true old new
round_more n old mid new fed taken given plainly = (
  same_terms old mid new taken.terms given.terms,
  record {
    plain = plain_expansion n old mid new fed.plain taken given plainly;
    unstarved = ap has_starve given.journal ∙ starve_Give mid.journal 0 n ∙ ap has_starve taken.journal ∙ starve_Take old.journal 0 n ∙ fed.unstarved;
  },
  taken.leads.below,
  ap count_takes given.journal ∙ takes-Give mid.journal 0 n ∙ ap count_takes taken.journal ∙ takes-Take old.journal 0 n,
)

-- there is an answer
pub round_done : (old new : Turns) → IsFed old → (new ≡ old) × IsSome (answer_in old) → IsRound false old new
round_done old new fed (same, some) =
    subst (λ (v : Turns). IsRound false old v) (sym same) (same_itself old, fed, some)

some_answer : (o : Option Answer) → IsSome o → (a : Answer) × (o ≡ Some a)
some_answer None is = cc
some_answer (Some a) is = (a, refl)

-- a search that has an answer leaves the record
pub found_record : (v : Turns) → IsFed v → v.table.most ≡ bounds → IsSome (answer_in v) → IsFound v.table.task v.limit (record_of v)
found_record v fed most some =
    let a = some_answer (answer_in v) some in
    record {
      plain = plain_record v a.0 fed.plain most a.1;
      unstarved = fed.unstarved;
      answered = λ starved. not_starved v.limit v.journal (config_of v.table) fed.unstarved starved;
    }

pub finished : (old new : Turns) (r : Record) → IsRound false old new → old.table.most ≡ bounds → r ≡ record_of new → IsFound old.table.task old.limit r
finished old new r (terms, fed, some) most is =
    let found : IsFound new.table.task new.limit (record_of new) = found_record new fed (terms.most ∙ most) some in
    subst (λ (q : Record). IsFound old.table.task old.limit q) (sym is)
    (subst (λ (k : TaskValue). IsFound k old.limit (record_of new)) terms.task
    (subst (λ (k : ℕ). IsFound new.table.task k (record_of new)) terms.limit found))

-- a search that has begun
pub begun_fed : (t : TaskValue) (limit workers : ℕ) (most : Most) (v : Turns) → IsBegun t limit workers most v → IsPlainSearch v → IsFed v
begun_fed t limit workers most v begun plain = record { plain = plain; unstarved = ap has_starve begun.journal }

pub found_by : {E : Type 0} (t : TaskValue) (limit workers : ℕ) (most : Most) (v : Turns) (r : Result Record E) → IsBegun t limit workers most v → IfOk r (IsFound v.table.task v.limit) → IfOk r (IsFound t limit)
found_by t limit workers most v (Ok found) begun is =
    subst (λ (k : TaskValue). IsFound k limit found) begun.task_is (subst (λ (k : ℕ). IsFound v.table.task k found) begun.limit_is is)
found_by t limit workers most v (Err fault) begun is = tt
