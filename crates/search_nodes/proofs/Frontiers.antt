-- The frontier as nodes come, go and change.
use Rattle.std.proofs.Common.{◌≡◌, ◌≢◌, ℕ, ◌<◌, ◌&&◌, ◌||◌, not, Bool, true, false, List, [], ◌∷◌, ◌++◌, length, refl, sym, ap, subst, ◌∙◌, inl, inr, arith}
use Rattle.std.proofs.lemmas.Bool.{false_from_ne_true}
use Rattle.std.specs.Cmp.{Equal-is}
use Rattle.std.specs.FinSet.{contains, contains-empty, contains-insert, empty, contains-remove, insert, remove}
use Rattle.std.specs.Ordering.{eq_by_cmp}
use Rattle.std.proofs.lemmas.Cmp.{eq_by_cmp_equiv}
use Rattle.open_list.proofs.Pairs.{pair_total, pair_tied}
use Rattle.open_list.specs.Frontier.{Frontier, IsLeast, pair_cmp}
use Rattle.ground_task.specs.States.{StateValue}
use Rattle.search_nodes.specs.Tables.{IsFrontierOf, NoneWaits}
use Rattle.search_runs.proofs.Places.{at_within, at_same, at_kept, at_last, at_longer, at_other, at_before}
use Rattle.search_runs.specs.Nodes.{with_status}
use Rattle.search_runs.specs.Runs.{IsLeastWaiting}
use Rattle.search_runs.specs.Spaces.{IsAt}
use Rattle.search_runs.specs.declared.nodes.Node.{Node}
use Rattle.search_runs.specs.declared.nodes.Status.{Status}
use Rattle.search_runs.specs.declared.nodes.Status.TheVariants.{Waiting}

abbrev WaitsAt : List (Node StateValue) → ℕ → ℕ → Type 0
WaitsAt nodes h n = (x : Node StateValue) × IsAt nodes n x × (x.status ≡ Waiting h)

same_pair : (p q : ℕ × ℕ) → eq_by_cmp pair_cmp p q ≡ true → p ≡ q
same_pair p q is = pair_tied p q ((Equal-is (pair_cmp p q)).0 is)

pair_itself : (p : ℕ × ℕ) → eq_by_cmp pair_cmp p p ≡ true
pair_itself p = (eq_by_cmp_equiv pair_total).refl p

-- a pair whose node is beyond isn't there
pub none_beyond : (frontier : Frontier) (nodes : List (Node StateValue)) (h : ℕ) → IsFrontierOf frontier nodes → contains frontier (h, length nodes) ≡ false
none_beyond frontier nodes h is = false_from_ne_true (contains frontier (h, length nodes)) (λ there.
    let waits = (is h (length nodes)).0 there in
    let within : length nodes < length nodes = at_within nodes (length nodes) waits.0 waits.1 in
    omega (arith, within))

-- a node more that doesn't wait
pub frontier_longer : (frontier : Frontier) (nodes : List (Node StateValue)) (x : Node StateValue) → ((h : ℕ) → x.status ≢ Waiting h) → IsFrontierOf frontier nodes → IsFrontierOf frontier (nodes ++ x ∷ [])
frontier_longer frontier nodes x other is h n = (
  (λ there. let w = (is h n).0 there in (w.0, at_kept nodes x n w.0 w.1, w.2)),
  (λ w. elim (at_longer nodes x n w.0 w.1) [
    | inl old ↦ (is h n).1 (w.0, old, w.2)
    | inr (here, same) ↦ absurd (other h (sym (ap (λ z. z.status) same) ∙ w.2))
  ]),
)

-- a node more that waits
pub frontier_pushed : (frontier : Frontier) (nodes : List (Node StateValue)) (x : Node StateValue) (k : ℕ) → x.status ≡ Waiting k → IsFrontierOf frontier nodes → IsFrontierOf (insert frontier (k, length nodes)) (nodes ++ x ∷ [])
frontier_pushed frontier nodes x k status is h n = (
  (λ there. forward (eq_by_cmp pair_cmp (h, n) (k, length nodes)) refl (sym (contains-insert pair_total frontier (k, length nodes) (h, n)) ∙ there)),
  (λ w. contains-insert pair_total frontier (k, length nodes) (h, n) ∙ back w),
)
  where
    forward : (b : Bool) → eq_by_cmp pair_cmp (h, n) (k, length nodes) ≡ b → (b || contains frontier (h, n)) ≡ true → WaitsAt (nodes ++ x ∷ []) h n
    forward true e there =
        let pair = same_pair (h, n) (k, length nodes) e in
        let one : h ≡ k = ap (λ p. p.0) pair in
        let two : n ≡ length nodes = ap (λ p. p.1) pair in
        (x, subst (λ m. IsAt (nodes ++ x ∷ []) m x) (sym two) (at_last nodes x), status ∙ ap Waiting (sym one))
    forward false e there = let w = (is h n).0 there in (w.0, at_kept nodes x n w.0 w.1, w.2)

    back : WaitsAt (nodes ++ x ∷ []) h n → (eq_by_cmp pair_cmp (h, n) (k, length nodes) || contains frontier (h, n)) ≡ true
    back w =
        elim (at_longer nodes x n w.0 w.1) [
          | inl old ↦ rw ((is h n).1 (w.0, old, w.2)) (or_true (eq_by_cmp pair_cmp (h, n) (k, length nodes)))
          | inr (here, same) ↦
              let both : Waiting h ≡ Waiting k = sym w.2 ∙ ap (λ z. z.status) same ∙ status in
              let one : h ≡ k = cc in
              let pair : ◌≡◌ {A = ℕ × ℕ} (h, n) (k, length nodes) = (λ i. (one i, here i)) in
              let yes_same : eq_by_cmp pair_cmp (h, n) (k, length nodes) ≡ true = subst (λ p. eq_by_cmp pair_cmp (h, n) p ≡ true) pair (pair_itself (h, n)) in
              rw yes_same refl
        ]
      where
        or_true : (b : Bool) → (b || true) ≡ true
        or_true true = refl
        or_true false = refl

-- the node is out of the frontier, and no longer waits
pub frontier_removed : (frontier : Frontier) (nodes : List (Node StateValue)) (m k : ℕ) (st : Status) (x : Node StateValue) → IsAt nodes m x → x.status ≡ Waiting k → ((h : ℕ) → st ≢ Waiting h)
    → IsFrontierOf frontier nodes → IsFrontierOf (remove frontier (k, m)) (with_status nodes m st)
frontier_removed frontier nodes m k st x at status other is h n = (
  (λ there. forward (eq_by_cmp pair_cmp (h, n) (k, m)) refl (sym (contains-remove pair_total frontier (k, m) (h, n)) ∙ there)),
  (λ w. contains-remove pair_total frontier (k, m) (h, n) ∙ back w),
)
  where
    forward : (b : Bool) → eq_by_cmp pair_cmp (h, n) (k, m) ≡ b → (not b && contains frontier (h, n)) ≡ true → WaitsAt (with_status nodes m st) h n
    forward true e there = cc
    forward false e there =
        let w = (is h n).0 there in (
          w.0,
          at_other nodes m st n w.0 (λ same.
              let y : IsAt nodes m w.0 = subst (λ i. IsAt nodes i w.0) same w.1 in
              let both : Waiting h ≡ Waiting k = sym w.2 ∙ ap (λ z. z.status) (at_same nodes m w.0 x y at) ∙ status in
              let one : h ≡ k = cc in
              let pair : ◌≡◌ {A = ℕ × ℕ} (h, n) (k, m) = (λ i. (one i, same i)) in
              let yes_same : eq_by_cmp pair_cmp (h, n) (k, m) ≡ true = subst (λ p. eq_by_cmp pair_cmp (h, n) p ≡ true) pair (pair_itself (h, n)) in
              let bad : true ≡ false = sym yes_same ∙ e in
              cc) w.1,
          w.2,
        )

    back : WaitsAt (with_status nodes m st) h n → (not (eq_by_cmp pair_cmp (h, n) (k, m)) && contains frontier (h, n)) ≡ true
    back w =
        elim (at_before nodes m st n w.0 w.1) [
          | inl (ne, old) ↦
              let apart : eq_by_cmp pair_cmp (h, n) (k, m) ≡ false = false_from_ne_true (eq_by_cmp pair_cmp (h, n) (k, m)) (λ e. ne (ap (λ p. p.1) (same_pair (h, n) (k, m) e))) in
              rw (apart, (is h n).1 (w.0, old, w.2)) refl
          | inr (here, y, old, same) ↦ absurd (other h (sym (ap (λ z. z.status) same) ∙ w.2))
        ]

-- another status of a node that doesn't wait, before or after
pub frontier_same : (frontier : Frontier) (nodes : List (Node StateValue)) (m : ℕ) (st : Status) (x : Node StateValue) → IsAt nodes m x → ((h : ℕ) → x.status ≢ Waiting h) → ((h : ℕ) → st ≢ Waiting h)
    → IsFrontierOf frontier nodes → IsFrontierOf frontier (with_status nodes m st)
frontier_same frontier nodes m st x at before after is h n = (
  (λ there. let w = (is h n).0 there in
      (w.0, at_other nodes m st n w.0 (λ same. before h (ap (λ z. z.status) (at_same nodes m x w.0 at (subst (λ i. IsAt nodes i w.0) same w.1)) ∙ w.2)) w.1, w.2)),
  (λ w. elim (at_before nodes m st n w.0 w.1) [
    | inl (ne, old) ↦ (is h n).1 (w.0, old, w.2)
    | inr (here, y, old, same) ↦ absurd (after h (sym (ap (λ z. z.status) same) ∙ w.2))
  ]),
)

-- the last node is gone, and was not waiting
pub frontier_shorter : (frontier : Frontier) (nodes : List (Node StateValue)) (x : Node StateValue) → ((h : ℕ) → x.status ≢ Waiting h) → IsFrontierOf frontier (nodes ++ x ∷ []) → IsFrontierOf frontier nodes
frontier_shorter frontier nodes x other is h n = (
  (λ there. let w = (is h n).0 there in
      elim (at_longer nodes x n w.0 w.1) [
        | inl old ↦ (w.0, old, w.2)
        | inr (here, same) ↦ absurd (other h (sym (ap (λ z. z.status) same) ∙ w.2))
      ]),
  (λ w. (is h n).1 (w.0, at_kept nodes x n w.0 w.1, w.2)),
)

-- the last node is gone, and was waiting
pub frontier_popped : (frontier : Frontier) (nodes : List (Node StateValue)) (x : Node StateValue) (k : ℕ) → x.status ≡ Waiting k → IsFrontierOf frontier (nodes ++ x ∷ []) → IsFrontierOf (remove frontier (k, length nodes)) nodes
frontier_popped frontier nodes x k status is h n = (
  (λ there. forward (eq_by_cmp pair_cmp (h, n) (k, length nodes)) refl (sym (contains-remove pair_total frontier (k, length nodes) (h, n)) ∙ there)),
  (λ w. contains-remove pair_total frontier (k, length nodes) (h, n) ∙ back w),
)
  where
    forward : (b : Bool) → eq_by_cmp pair_cmp (h, n) (k, length nodes) ≡ b → (not b && contains frontier (h, n)) ≡ true → WaitsAt nodes h n
    forward true e there = cc
    forward false e there =
        let w = (is h n).0 there in
        elim (at_longer nodes x n w.0 w.1) [
          | inl old ↦ (w.0, old, w.2)
          | inr (here, same) ↦
              let both : Waiting h ≡ Waiting k = sym w.2 ∙ ap (λ z. z.status) same ∙ status in
              let one : h ≡ k = cc in
              let pair : ◌≡◌ {A = ℕ × ℕ} (h, n) (k, length nodes) = (λ i. (one i, here i)) in
              let yes_same : eq_by_cmp pair_cmp (h, n) (k, length nodes) ≡ true = subst (λ p. eq_by_cmp pair_cmp (h, n) p ≡ true) pair (pair_itself (h, n)) in
              let bad : true ≡ false = sym yes_same ∙ e in
              cc
        ]

    back : WaitsAt nodes h n → (not (eq_by_cmp pair_cmp (h, n) (k, length nodes)) && contains frontier (h, n)) ≡ true
    back w =
        let apart : eq_by_cmp pair_cmp (h, n) (k, length nodes) ≡ false = false_from_ne_true (eq_by_cmp pair_cmp (h, n) (k, length nodes)) (λ e.
        let here : n ≡ length nodes = ap (λ p. p.1) (same_pair (h, n) (k, length nodes) e) in
        let within : n < length nodes = at_within nodes n w.0 w.1 in
        absurd (omega (arith, within, here))) in
        rw (apart, (is h n).1 (w.0, at_kept nodes x n w.0 w.1, w.2)) refl

-- the least pair is that of the waiting node that comes first
pub least_of : (frontier : Frontier) (nodes : List (Node StateValue)) (h n : ℕ) → IsFrontierOf frontier nodes → IsLeast frontier (h, n) → IsLeastWaiting nodes n h
least_of frontier nodes h n is least =
    let w = (is h n).0 least.member in
    record { node = w.0; there = w.1; waits = w.2; least = λ m k other at waits. least.first (k, m) ((is k m).1 (other, at, waits)) }

pub none_waits : (frontier : Frontier) (nodes : List (Node StateValue)) → IsFrontierOf frontier nodes → frontier ≡ empty → NoneWaits nodes
none_waits frontier nodes is none h n x at waits =
    let bad : true ≡ false = sym ((is h n).1 (x, at, waits)) ∙ ap (λ f. contains f (h, n)) none ∙ contains-empty pair_cmp (h, n) in
    cc
