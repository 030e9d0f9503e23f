use Rattle.std.proofs.Common.{◌≡◌, ◌++◌, drop, map}
use Rattle.std.specs.List.{filter_map, flat_map}
use Rattle.pddl_trees.specs.Faults.{all_noted}
use Rattle.pddl_trees.specs.Initial.{Entry, entry_of}
use Rattle.pddl_reader.proofs.initial.entries.Given as goal

abbrev pub invariant-each : goal.invariant-each
invariant-each l = record {
  faults : all_noted l.notes.first (flat_map (λ (e : Entry). e.faults) (map (entry_of l.text) (drop l.tree-index l.trees)))
      ≡ all_noted l.fn.notes.first (flat_map (λ (e : Entry). e.faults) (map (entry_of l.text) l.trees));
  facts : l.said.facts ++ filter_map (λ (e : Entry). e.fact) (map (entry_of l.text) (drop l.tree-index l.trees))
      ≡ filter_map (λ (e : Entry). e.fact) (map (entry_of l.text) l.trees);
  values : l.said.values ++ filter_map (λ (e : Entry). e.value) (map (entry_of l.text) (drop l.tree-index l.trees))
      ≡ filter_map (λ (e : Entry). e.value) (map (entry_of l.text) l.trees);
}
