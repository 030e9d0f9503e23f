use Rattle.std.proofs.Common.{◌≡◌, ◌+◌, drop}
use Rattle.std.specs.Prelude.{option_map}
use Rattle.name_table.specs.Tables.{place_in}
use Rattle.name_table.specs.TypedLists.{names_of}
use Rattle.bound_atoms.proofs.slots.place_of.Given as goal

abbrev pub invariant-each : goal.invariant-each
invariant-each l = record {
  counted : l.place ≡ l.param-index;
  rest : option_map (λ j. j + l.place) (place_in l.text (names_of (drop l.param-index l.params))) ≡ place_in l.text (names_of l.params);
}
