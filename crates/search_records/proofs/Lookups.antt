-- Loops over nodes and events.
use Rattle.std.proofs.Common.{◌≡◌, ℕ, ◌+◌, ◌<◌, suc, Bool, true, false, List, length, get_or, drop, Option, None, Some, option_map, if◌then◌else◌, add-one, refl, ap, arith, drop-cons}
use Rattle.std.proofs.lemmas.List.{drop_all}
use Rattle.search_runs.specs.Answers.{first_where}
use Rattle.search_runs.specs.declared.nodes.Node.{Node}
use Rattle.search_runs.specs.declared.nodes.Status.{Status}

-- one node, and then the rest
pub where_step : {S : Type 0} (p : Status → Bool) (nodes : List (Node S)) (i : ℕ) (d : Node S) → i < length nodes → first_where p (drop i nodes) ≡ (if p (get_or nodes i d).status then Some 0 else option_map suc (first_where p (drop (i + 1) nodes)))
where_step p nodes i d within = rw (add-one, drop-cons nodes i d) refl

-- a node that isn't wanted is passed
pub where_passed : {S : Type 0} (p : Status → Bool) (nodes : List (Node S)) (i : ℕ) (d : Node S) → i < length nodes → p (get_or nodes i d).status ≡ false → option_map (λ k. i + k) (first_where p (drop i nodes)) ≡ option_map (λ k. i + 1 + k) (first_where p (drop (i + 1) nodes))
where_passed p nodes i d within other =
    rw (where_step p nodes i d within, other) (by (first_where p (drop (i + 1) nodes)))
  where
    by : (o : Option ℕ) → option_map (λ k. i + k) (option_map suc o) ≡ option_map (λ k. i + 1 + k) o
    by None = refl
    by (Some k) = ap Some (omega arith)

-- a node that is wanted is the first
pub where_found : {S : Type 0} (p : Status → Bool) (nodes : List (Node S)) (i : ℕ) (d : Node S) → i < length nodes → p (get_or nodes i d).status ≡ true → option_map (λ k. i + k) (first_where p (drop i nodes)) ≡ Some i
where_found p nodes i d within is = rw (where_step p nodes i d within, is) (ap Some (omega arith))

-- at the end there is none
pub where_end : {S : Type 0} (p : Status → Bool) (nodes : List (Node S)) (i : ℕ) → length nodes ≡ i → option_map (λ k. i + k) (first_where p (drop i nodes)) ≡ None
where_end p nodes i e = rw (drop_all i nodes (omega arith)) refl
