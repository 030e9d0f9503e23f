use Rattle.std.proofs.Common.{◌-◌, ℕ, List, length, rules, take, drop}
use Rattle.std.specs.Prelude.{nat_le, nat_lt}
use Rattle.std.proofs.lemmas.List.Sorted.{IsNonDecreasingBy-drop, IsNonDecreasingBy-take, IsPartitionPoint-from_clause, IsPartitionedBy-leb, IsPartitionedBy-ltb}
use Rattle.numbering.proofs.Groups.{grouped_within}
use Rattle.numbering.proofs.spread.edges_from.Goals as goal

pub returns : goal.returns
returns c =
    let edges = c.args.edges.now in
    let start = c.partition_point-start.result in
    let later : List (ℕ × ℕ) = take (length edges - start) (drop start edges) in
    let rising = IsNonDecreasingBy-take (λ (e : ℕ × ℕ). e.0) (length edges - start) (drop start edges)
    (IsNonDecreasingBy-drop (λ (e : ℕ × ℕ). e.0) start edges c.requires.sorted) in
    let first = IsPartitionPoint-from_clause (λ (e : ℕ × ℕ). nat_lt e.0 c.args.from) edges start c.partition_point-start.ensures.partitioned
    (IsPartitionedBy-ltb (λ (e : ℕ × ℕ). e.0) edges c.args.from c.requires.sorted) (λ a r q k. search rules) in
    let second = IsPartitionPoint-from_clause (λ (e : ℕ × ℕ). nat_le e.0 c.args.from) later c.partition_point-end.result c.partition_point-end.ensures.partitioned
    (IsPartitionedBy-leb (λ (e : ℕ × ℕ). e.0) later c.args.from rising) (λ a r q k. search rules) in
    grouped_within edges c.args.from start c.partition_point-end.result first second
