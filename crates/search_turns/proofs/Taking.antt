-- When a worker gets a node.
use Rattle.std.proofs.Common.{◌≡◌, ℕ, ◌<◌, ◌++◌, [], ◌∷◌, true, false, List, Option, None, Some, refl, sym, ap, subst, ◌∙◌, inl, inr, arith}
use Rattle.std.proofs.lemmas.Bool.{cases_order, ltb-true}
use Rattle.std.specs.Prelude.{IsSome, is_some}
use Rattle.ground_task.specs.States.{StateValue}
use Rattle.box_model.specs.declared.state_box.StateBox.{StateBox}
use Rattle.search_nodes.specs.Tables.{Table, WithNodes, config_of}
use Rattle.search_runs.proofs.Finding.{waits_only}
use Rattle.search_runs.proofs.Stability.{IsReady, going, ready}
use Rattle.search_runs.proofs.Stays.{none_where, some_where}
use Rattle.search_runs.specs.Answers.{count, is_goal, is_taken, is_waiting}
use Rattle.search_runs.specs.Nodes.{Config, changed, with_status}
use Rattle.search_runs.specs.Runs.{Takes, count_takes}
use Rattle.search_runs.specs.Spaces.{IsAt}
use Rattle.search_runs.specs.declared.events.Event.{Event}
use Rattle.search_runs.specs.declared.events.Event.TheVariants.{Take}
use Rattle.search_runs.specs.declared.nodes.Node.{Node}
use Rattle.search_runs.specs.declared.nodes.Status.TheVariants.{Taken}
use Rattle.search_turns.proofs.Answering.{first_none}
use Rattle.search_turns.specs.Turns.{CanTake, CantTake, IsNotYet, IsTaken, Turns, answer_in}

pub takes_from : (w n : ℕ) (t : Turns) → w < t.workers → answer_in t ≡ None → CanTake t n → Takes t.workers t.limit t.journal (config_of t.table) w n (changed n (Taken w) (config_of t.table))
takes_from w n t worker none can =
    let open_still = going t.limit t.journal (config_of t.table) none in
    record {
      worker = worker;
      no_goal = λ m x at goal. none_where is_goal t.table.nodes open_still.0 m x at (ap is_goal goal);
      no_mark = can.0;
      below = can.1;
      none_starved = open_still.1;
      h = can.2.0;
      is_least = can.2.1;
      after = refl;
    }

none_some : {X : Type 0} {o : Option X} → o ≡ None → IsSome o → ⊥
none_some none some = let bad : true ≡ false = sym some ∙ ap is_some none in cc

none_takes : (w : ℕ) (t : Turns) → CantTake t → (n : ℕ) (c : Config StateValue StateBox) → Takes t.workers t.limit t.journal (config_of t.table) w n c → ⊥
none_takes w t (inl full) n c takes = none_some takes.no_mark full
none_takes w t (inr (inl past)) n c takes = let below : count_takes t.journal < t.limit = takes.below in omega (arith, past, below)
none_takes w t (inr (inr none)) n c takes = none takes.h n takes.is_least.node takes.is_least.there takes.is_least.waits

not_ready : (t : Turns) → CantTake t → IsReady t.limit t.journal (config_of t.table) → ⊥
not_ready t (inl full) is = none_some is.no_mark full
not_ready t (inr (inl past)) is = let below : count_takes t.journal < t.limit = ltb-true (count_takes t.journal) t.limit is.below in omega (arith, past, below)
not_ready t (inr (inr none)) is =
    let r = some_where is_waiting t.table.nodes is.waits.0 is.waits.1 in
    let w = waits_only r.0.status r.2 in
    none w.0 is.waits.0 r.0 r.1 w.1

pub none_of : {X : Type 0} (o : Option X) → false ≡ is_some o → o ≡ None
none_of None is = refl
none_of (Some x) is = cc

pub not_yet : (w k : ℕ) (t : Turns) → answer_in t ≡ None → CantTake t → k ≡ count is_taken t.table.nodes → IsNotYet w k t t
not_yet w k t none cant same = record {
  unchanged = refl;
  no_answer = none;
  none = none_takes w t cant;
  count_is = same;
  some = elim (cases_order 0 k) [
    | inl zero_is ↦ absurd (not_ready t cant (ready t.limit t.journal (config_of t.table) none (first_none is_taken t.table.nodes (sym same ∙ sym zero_is))))
    | inr (inl less) ↦ less
    | inr (inr more) ↦ absurd (omega (arith, more))
  ];
}

-- the worker takes the node
pub taken_from : (w n : ℕ) (s : StateValue) (t : Turns) (table : Table) (j : List Event) → w < t.workers → answer_in t ≡ None → CanTake t n → table ≡ WithNodes (with_status t.table.nodes n (Taken w)) t.table
    → j ≡ t.journal ++ Take w n ∷ [] → (x : Node StateValue) × IsAt t.table.nodes n x × (x.state ≡ s) → IsTaken w n s t (record { table = table; limit = t.limit; workers = t.workers; journal = j })
taken_from w n s t table j worker none can same journal (x, there, state) = record {
  takes = subst (λ (k : Table). Takes t.workers t.limit t.journal (config_of t.table) w n (config_of k)) (sym same) (takes_from w n t worker none can);
  journal = journal;
  node = x;
  there = there;
  state = state;
}
