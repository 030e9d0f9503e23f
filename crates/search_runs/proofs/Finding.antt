-- Closed states, and the waiting node that comes first.
use Rattle.std.proofs.Common.{◌≡◌, ℕ, ◌<◌, ◌≤◌, ◌⊎◌, zero, suc, true, List, [], ◌∷◌, refl, sym, ap, subst, ◌∙◌, inl, inr, arith}
use Rattle.std.proofs.lemmas.Bool.{cases_order}
use Rattle.search_runs.specs.Answers.{if_closed, closed_states, is_waiting}
use Rattle.search_runs.specs.Nodes.{IsClosed}
use Rattle.search_runs.specs.Runs.{IsLeastWaiting}
use Rattle.search_runs.specs.Spaces.{Space, IsAt, IsListed}
use Rattle.search_runs.specs.declared.nodes.Node.{Node}
use Rattle.search_runs.specs.declared.nodes.Status.{Status}
use Rattle.search_runs.specs.declared.nodes.Status.TheVariants.{Waiting, Taken, Closed, Goal, Dead}

module _ {S : Type 0} where
  listed_more : (st : Status) (y : S) (rest : List S) (s : S) → IsListed rest s → IsListed (if_closed st y rest) s
  listed_more (Waiting h) y rest s is = is
  listed_more (Taken w) y rest s is = is
  listed_more Closed y rest s (n, at) = (suc n, at)
  listed_more Goal y rest s is = is
  listed_more (Dead b) y rest s is = is

  listed_here : (st : Status) (y : S) (rest : List S) → st ≡ Closed → IsListed (if_closed st y rest) y
  listed_here (Waiting h) y rest is = cc
  listed_here (Taken w) y rest is = cc
  listed_here Closed y rest is = (zero, refl)
  listed_here Goal y rest is = cc
  listed_here (Dead b) y rest is = cc

  listed_before : (st : Status) (y : S) (rest : List S) (s : S) → IsListed (if_closed st y rest) s → ((st ≡ Closed) × (y ≡ s)) ⊎ IsListed rest s
  listed_before (Waiting h) y rest s is = inr is
  listed_before (Taken w) y rest s is = inr is
  listed_before Closed y rest s (zero, at) = let same : y ≡ s = cc in inl (refl, same)
  listed_before Closed y rest s (suc n, at) = inr (n, at)
  listed_before Goal y rest s is = inr is
  listed_before (Dead b) y rest s is = inr is

  pub closed_if_listed : (nodes : List (Node S)) (s : S) → IsListed (closed_states nodes) s → IsClosed nodes s
  closed_if_listed [] s (n, at) = cc
  closed_if_listed (x ∷ nodes) s is =
      elim (listed_before x.status x.state (closed_states nodes) s is) [
        | inl (closed, same) ↦ (zero, x, refl, same, closed)
        | inr rest ↦ let r = closed_if_listed nodes s rest in (suc r.0, r.1, r.2, r.3, r.4)
      ]

  listed_if_at : (nodes : List (Node S)) (n : ℕ) (x : Node S) → IsAt nodes n x → x.status ≡ Closed → IsListed (closed_states nodes) x.state
  listed_if_at [] n x at closed = cc
  listed_if_at (y ∷ nodes) zero x at closed =
      let same : y ≡ x = cc in
      subst (λ s. IsListed (closed_states (y ∷ nodes)) s) (ap (λ z. z.state) same) (listed_here y.status y.state (closed_states nodes) (ap (λ z. z.status) same ∙ closed))
  listed_if_at (y ∷ nodes) (suc n) x at closed = listed_more y.status y.state (closed_states nodes) x.state (listed_if_at nodes n x at closed)

  pub listed_if_closed : (nodes : List (Node S)) (s : S) → IsClosed nodes s → IsListed (closed_states nodes) s
  listed_if_closed nodes s (n, x, at, is, closed) = subst (IsListed (closed_states nodes)) is (listed_if_at nodes n x at closed)

-- the waiting node that comes first, where one waits
module _ {S B : Type 0} (g : Space S B) where
  abbrev NoneWaits : List (Node S) → Type 0
  NoneWaits nodes = (n k : ℕ) (x : Node S) → IsAt nodes n x → x.status ≡ Waiting k → ⊥

  abbrev HasLeast : List (Node S) → Type 0
  HasLeast nodes = (n : ℕ) × (h : ℕ) × IsLeastWaiting nodes n h

  -- it is among the others, and comes before the first
  least_later : (x : Node S) (nodes : List (Node S)) (n k : ℕ) → IsLeastWaiting nodes n k → ((h : ℕ) → x.status ≡ Waiting h → k < h) → IsLeastWaiting (x ∷ nodes) (suc n) k
  least_later x nodes n k is above = record {
    node = is.node;
    there = is.there;
    waits = is.waits;
    least = λ m h other at waits. by m h other at waits;
  }
    where
      by : (m h : ℕ) (other : Node S) → IsAt (x ∷ nodes) m other → other.status ≡ Waiting h → (k < h) ⊎ ((k ≡ h) × (suc n ≤ m))
      by zero h other at waits = let same : x ≡ other = cc in inl (above h (ap (λ z. z.status) same ∙ waits))
      by (suc m) h other at waits =
          elim (is.least m h other at waits) [
            | inl less ↦ inl less
            | inr (same, before) ↦ inr (same, omega (arith, before))
          ]

  -- the first node, where no other comes before it
  least_here : (x : Node S) (nodes : List (Node S)) (h : ℕ) → x.status ≡ Waiting h → ((m k : ℕ) (other : Node S) → IsAt nodes m other → other.status ≡ Waiting k → h ≤ k) → IsLeastWaiting (x ∷ nodes) zero h
  least_here x nodes h is below = record {
    node = x;
    there = refl;
    waits = is;
    least = λ m k other at waits. by m k other at waits;
  }
    where
      split : (k m : ℕ) → h ≤ k → (h < k) ⊎ ((h ≡ k) × (zero ≤ m))
      split k m le =
          elim (cases_order h k) [
            | inl same ↦ inr (same, omega arith)
            | inr (inl less) ↦ inl less
            | inr (inr more) ↦ absurd (omega arith)
          ]

      by : (m k : ℕ) (other : Node S) → IsAt (x ∷ nodes) m other → other.status ≡ Waiting k → (h < k) ⊎ ((h ≡ k) × (zero ≤ m))
      by zero k other at waits =
          let same : x ≡ other = cc in
          let one : Waiting h ≡ Waiting k = sym is ∙ ap (λ z. z.status) same ∙ waits in
          let equal : h ≡ k = cc in
          inr (equal, omega arith)
      by (suc m) k other at waits = split k (suc m) (below m k other at waits)

  least_of : (x : Node S) (nodes : List (Node S)) (h : ℕ) → x.status ≡ Waiting h → HasLeast nodes ⊎ NoneWaits nodes → HasLeast (x ∷ nodes)
  least_of x nodes h is (inr none) = (zero, h, least_here x nodes h is (λ m k other at waits. absurd (none m k other at waits)))
  least_of x nodes h is (inl (n, k, least)) =
      elim (cases_order h k) [
        | inl same ↦ (zero, h, least_here x nodes h is (λ m i other at waits. bound m i other at waits (omega (arith, same))))
        | inr (inl less) ↦ (zero, h, least_here x nodes h is (λ m i other at waits. bound m i other at waits (omega (arith, less))))
        | inr (inr more) ↦ (suc n, k, least_later x nodes n k least (λ i waits. let one : Waiting h ≡ Waiting i = sym is ∙ waits in let equal : h ≡ i = cc in subst (λ e. k < e) equal more))
      ]
    where
      bound : (m i : ℕ) (other : Node S) → IsAt nodes m other → other.status ≡ Waiting i → h ≤ k → h ≤ i
      bound m i other at waits le =
          elim (least.least m i other at waits) [
            | inl less ↦ omega (arith, less, le)
            | inr (same, before) ↦ omega (arith, same, le)
          ]

  -- where the first node doesn't wait
  least_past : (x : Node S) (nodes : List (Node S)) → ((h : ℕ) → x.status ≡ Waiting h → ⊥) → HasLeast nodes ⊎ NoneWaits nodes → HasLeast (x ∷ nodes) ⊎ NoneWaits (x ∷ nodes)
  least_past x nodes other (inl (n, k, least)) = inl (suc n, k, least_later x nodes n k least (λ h is. absurd (other h is)))
  least_past x nodes other (inr none) = inr by
    where
      by : NoneWaits (x ∷ nodes)
      by zero k y at waits = let same : x ≡ y = cc in other k (ap (λ z. z.status) same ∙ waits)
      by (suc n) k y at waits = none n k y at waits

  pub find_least : (nodes : List (Node S)) → HasLeast nodes ⊎ NoneWaits nodes
  find_least [] = inr (λ n k x at waits. cc)
  find_least (x ∷ nodes) = by x.status refl (find_least nodes)
    where
      by : (st : Status) → x.status ≡ st → HasLeast nodes ⊎ NoneWaits nodes → HasLeast (x ∷ nodes) ⊎ NoneWaits (x ∷ nodes)
      by (Waiting h) is rest = inl (least_of x nodes h is rest)
      by (Taken w) is rest = least_past x nodes (λ h waits. let bad : Taken w ≡ Waiting h = sym is ∙ waits in cc) rest
      by Closed is rest = least_past x nodes (λ h waits. let bad : Closed ≡ Waiting h = sym is ∙ waits in cc) rest
      by Goal is rest = least_past x nodes (λ h waits. let bad : Goal ≡ Waiting h = sym is ∙ waits in cc) rest
      by (Dead b) is rest = least_past x nodes (λ h waits. let bad : Dead b ≡ Waiting h = sym is ∙ waits in cc) rest

pub waits_only : (st : Status) → is_waiting st ≡ true → (h : ℕ) × (st ≡ Waiting h)
waits_only (Waiting h) is = (h, refl)
waits_only (Taken w) is = cc
waits_only Closed is = cc
waits_only Goal is = cc
waits_only (Dead b) is = cc
