-- A node that a worker has taken while another does something.
use Rattle.std.proofs.Common.{◌≡◌, ◌≢◌, ℕ, List, [], ◌∷◌, ◌++◌, false, ap, ◌∙◌}
use Rattle.ground_task.specs.States.{StateValue}
use Rattle.search_runs.specs.Runs.{has_starved}
use Rattle.search_runs.specs.declared.events.Event.{Event}
use Rattle.search_runs.specs.declared.events.Event.TheVariants.{Give, Start, Starve, Take}
use Rattle.search_turns.specs.Turns.{Turns}
use Rattle.search_core.proofs.Events.{node_stays}
use Rattle.search_core.specs.Searches.{HasTaken, IsEvent}

still_taken : (e : Event) (w n : ℕ) (s : StateValue) (old new : Turns) → HasTaken w n s old → IsEvent e old new → e ≢ Give w n → HasTaken w n s new
still_taken e w n s old new has is other =
    let stays = node_stays e old new n has.node is has.there in
    record {
      node = stays.node;
      there = stays.there;
      is_taken = stays.taken w has.is_taken other;
      state = stays.state ∙ has.state;
    }

-- another takes a node
pub taken_beside : (v m w n : ℕ) (s : StateValue) (old new : Turns) → HasTaken w n s old → IsEvent (Take v m) old new → HasTaken w n s new
taken_beside v m w n s old new has is = still_taken (Take v m) w n s old new has is (λ same. cc)

-- another gives a node
pub taken_giving : (v m w n : ℕ) (s : StateValue) (old new : Turns) → v ≢ w → HasTaken w n s old → IsEvent (Give v m) old new → HasTaken w n s new
taken_giving v m w n s old new differs has is = still_taken (Give v m) w n s old new has is (λ same. differs (let f : v ≡ w = cc in f))

-- another starves
pub taken_starving : (v w n : ℕ) (s : StateValue) (old new : Turns) → HasTaken w n s old → IsEvent (Starve v) old new → HasTaken w n s new
taken_starving v w n s old new has is = still_taken (Starve v) w n s old new has is (λ same. cc)

-- nobody starved where a node was taken at once
pub none_starved : (v w n : ℕ) (old new : Turns) → old.journal ≡ Start ∷ [] → IsEvent (Take w n) old new → has_starved v new.journal ≡ false
none_starved v w n old new begun is =
    ap (has_starved v) is.journal ∙ ap (λ (j : List Event). has_starved v (j ++ Take w n ∷ [])) begun
