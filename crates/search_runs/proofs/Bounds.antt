-- A search that stops at a limit has seen more states than that.
use Rattle.std.proofs.Common.{◌≡◌, ◌≢◌, ℕ, ◌≤◌, ◌+◌, ◌⊎◌, zero, suc, Bool, true, false, cond, List, [], ◌∷◌, length, None, Some, refl, sym, ap, subst, ◌∙◌, inl, inr, arith}
use Rattle.std.specs.Prelude.{AllPairs, All}
use Rattle.std.proofs.lemmas.List.Kept.{AllPairs-cons}
use Rattle.std.proofs.lemmas.List.Elements.{All-cons, All-nil}
use Rattle.search_runs.specs.Answers.{count}
use Rattle.search_runs.specs.Meanings.{IsRightFor}
use Rattle.search_runs.specs.Nodes.{Config}
use Rattle.search_runs.specs.Runs.{count_takes}
use Rattle.search_runs.specs.Spaces.{Space, IsAt, IsLiveReachable, IsDeadNeighbour, AtMost}
use Rattle.search_runs.specs.declared.answers.Full.TheVariants.{States, Boxes}
use Rattle.search_runs.specs.declared.events.Event.{Event}
use Rattle.search_runs.specs.declared.nodes.Node.{Node}
use Rattle.search_runs.specs.declared.nodes.Status.{Status}
use Rattle.search_runs.specs.declared.nodes.Status.TheVariants.{Waiting, Taken, Closed, Dead, Goal}
use Rattle.search_runs.proofs.Holds.{is_expanded, is_dead, Holds, Laws}
use Rattle.search_runs.proofs.Moves.{reach_on}

-- the states of the nodes with such a status
states_where : {S : Type 0} → (Status → Bool) → List (Node S) → List S
states_where p [] = []
states_where p (x ∷ nodes) = cond (p x.status) (x.state ∷ states_where p nodes) (states_where p nodes)

length-states : {S : Type 0} (p : Status → Bool) (nodes : List (Node S)) → length (states_where p nodes) ≡ count p nodes
unfolding states_where
length-states p [] = refl
length-states p (x ∷ nodes) = by (p x.status) (length-states p nodes)
  where
    by : (b : Bool) → length (states_where p nodes) ≡ count p nodes → length (cond b (x.state ∷ states_where p nodes) (states_where p nodes)) ≡ cond b 1 0 + count p nodes
    by true h = omega arith
    by false h = omega arith

All-states : {S : Type 0} (P : S → Type 0) (p : Status → Bool) (nodes : List (Node S)) → ((n : ℕ) (x : Node S) → IsAt nodes n x → p x.status ≡ true → P x.state) → All P (states_where p nodes)
unfolding states_where
All-states P p [] each = All-nil P
All-states P p (x ∷ nodes) each = by (p x.status) refl (All-states P p nodes (λ n y at is. each (suc n) y at is))
  where
    by : (b : Bool) → p x.status ≡ b → All P (states_where p nodes) → All P (cond b (x.state ∷ states_where p nodes) (states_where p nodes))
    by true is rest = All-cons P x.state (states_where p nodes) (each zero x refl is) rest
    by false is rest = rest

apart-states : {S : Type 0} (p : Status → Bool) (nodes : List (Node S)) → ((m n : ℕ) (x y : Node S) → IsAt nodes m x → IsAt nodes n y → x.state ≡ y.state → m ≡ n) → AllPairs (λ s t. s ≢ t) (states_where p nodes)
unfolding states_where
apart-states p [] apart = λ i j d before within. absurd (omega arith)
apart-states p (x ∷ nodes) apart =
    by (p x.status) (All-states (λ s. x.state ≢ s) p nodes (λ n y at is same. let bad : zero ≡ suc n = apart zero (suc n) x y refl at same in omega arith))
    (apart-states p nodes (λ m n y z at there same. let e : suc m ≡ suc n = apart (suc m) (suc n) y z at there same in omega arith))
  where
    by : (b : Bool) → All (λ s. x.state ≢ s) (states_where p nodes) → AllPairs (λ s t. s ≢ t) (states_where p nodes) → AllPairs (λ s t. s ≢ t) (cond b (x.state ∷ states_where p nodes) (states_where p nodes))
    by true first rest = AllPairs-cons (λ s t. s ≢ t) x.state (states_where p nodes) first rest
    by false first rest = rest

module _ {S B : Type 0} (g : Space S B) (laws : Laws g) (j : List Event) (c : Config S B) (h : Holds g j c None) where
  -- the states with such a status and one more are more than so many
  more : (P : S → Type 0) (p : Status → Bool) (s : S) (n : ℕ) → AtMost n P → P s → ((m : ℕ) (x : Node S) → IsAt c.nodes m x → p x.status ≡ true → P x.state × (s ≢ x.state)) → n ≤ count p c.nodes → ⊥
  more P p s n most is each enough =
      let xs : List S = states_where p c.nodes in
      let few : length (s ∷ xs) ≤ n = most (s ∷ xs)
      (AllPairs-cons (λ x y. x ≢ y) s xs (All-states (λ t. s ≢ t) p c.nodes (λ m x at good. (each m x at good).1)) (apart-states p c.nodes h.tree.apart))
      (All-cons P s xs is (All-states P p c.nodes (λ m x at good. (each m x at good).0))) in
      omega (arith, length-states p c.nodes)

  reached_if_expanded : (s : S) (st : Status) → IsRightFor g c.boxes s st → is_expanded st ≡ true → IsLiveReachable g s
  reached_if_expanded s (Waiting k) is good = is.0
  reached_if_expanded s (Taken w) is good = is.1
  reached_if_expanded s Closed is good = is.0
  reached_if_expanded s Goal is good = is.0
  reached_if_expanded s (Dead b) is good = cc

  pub expansions : (m k : ℕ) (x : Node S) → IsAt c.nodes m x → x.status ≡ Waiting k → g.limit ≤ count_takes j → AtMost g.limit (IsLiveReachable g) → ⊥
  expansions m k x at waits all most =
      let of : IsRightFor g c.boxes x.state (Waiting k) = subst (IsRightFor g c.boxes x.state) waits (h.classed.classes m x at) in
      more (IsLiveReachable g) is_expanded x.state g.limit most of.0
      (λ n y there good. (
        reached_if_expanded y.state y.status (h.classed.classes n y there) good,
        λ same.
            let here : m ≡ n = h.tree.apart m n x y at there same in
            let one : IsAt c.nodes m y = subst (λ i. IsAt c.nodes i y) (sym here) there in
            let is_one : x ≡ y = cc in
            let bad : false ≡ true = sym (ap is_expanded waits) ∙ ap (λ z. is_expanded z.status) is_one ∙ good in cc,
      ))
      (omega (arith, h.counted.takes))

  abbrev pub of_near : S → Type 0
  of_near s = IsLiveReachable g s ⊎ IsDeadNeighbour g s

  near_if_node : (s : S) (st : Status) → IsRightFor g c.boxes s st → of_near s
  near_if_node s (Waiting k) is = inl is.0
  near_if_node s (Taken w) is = inl is.1
  near_if_node s Closed is = inl is.0
  near_if_node s Goal is = inl is.0
  near_if_node s (Dead b) is = inr is.0

  all_of : Status → Bool
  all_of st = true

  count-all : (nodes : List (Node S)) → count all_of nodes ≡ length nodes
  unfolding all_of
  count-all [] = refl
  count-all (x ∷ nodes) = omega (arith, count-all nodes)

  -- whether the further state is live or dead isn't decided
  pub filled_states : c.full ≡ Some States → AtMost g.most_states of_near → ⊥
  filled_states is most =
      let (full, (n, x, a, s, at, closed, within, next, none)) = h.noted.mark States is in
      let of : IsRightFor g c.boxes x.state Closed = subst (IsRightFor g c.boxes x.state) closed (h.classed.classes n x at) in
      let moves = laws.next a x.state s within next in
      let never : of_near s → ⊥ = λ near. more of_near all_of s g.most_states most near (λ m y there good. (near_if_node y.state y.status (h.classed.classes m y there), λ same. none (m, y, there, sym same))) (omega (arith, count-all c.nodes)) in
      never (inl (reach_on g x.state s a of.0 moves (λ dead. never (inr (dead, inr (x.state, a, of.0, moves))))))

  dead_if_dead : (s : S) (st : Status) → IsRightFor g c.boxes s st → is_dead st ≡ true → IsDeadNeighbour g s × ((b : ℕ) × (box : B) × IsAt c.boxes b box × g.Contains box s)
  dead_if_dead s (Waiting k) is good = cc
  dead_if_dead s (Taken w) is good = cc
  dead_if_dead s Closed is good = cc
  dead_if_dead s Goal is good = cc
  dead_if_dead s (Dead b) is good = (is.0, (b, is.1.0, is.1.1, is.1.3))

  pub filled_boxes : c.full ≡ Some Boxes → AtMost g.most_boxes (IsDeadNeighbour g) → ⊥
  filled_boxes is most =
      let (full, (n, x, a, s, at, closed, within, next, (dead, none))) = h.noted.mark Boxes is in
      let of : IsRightFor g c.boxes x.state Closed = subst (IsRightFor g c.boxes x.state) closed (h.classed.classes n x at) in
      let moves = laws.next a x.state s within next in
      more (IsDeadNeighbour g) is_dead s g.most_boxes most (dead, inr (x.state, a, of.0, moves))
      (λ m y there good. let d = dead_if_dead y.state y.status (h.classed.classes m y there) good in
      (d.0, λ same. none d.1.0 d.1.1 d.1.2 (subst (g.Contains d.1.1) (sym same) d.1.3)))
      (omega (arith, h.counted.owned))
