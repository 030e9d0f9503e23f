-- What an entry of the initial state says.
use Rattle.std.specs.Prelude.{Option, Some, None}
use Rattle.num_ends.specs.Decimal.{Decimal}
use Rattle.pddl_terms.specs.declared.names.Atom.{Atom}
use Rattle.pddl_reader.specs.declared.initial.Entry.{Entry}
use Rattle.pddl_reader.specs.declared.initial.Entry.TheVariants.{Fact, Value, Nothing}

abbrev pub fact_said : Entry → Option Atom
fact_said (Fact a) = Some a
fact_said (Value a d) = None
fact_said Nothing = None

abbrev pub value_said : Entry → Option (Atom × Decimal)
value_said (Fact a) = None
value_said (Value a d) = Some (a, d)
value_said Nothing = None
