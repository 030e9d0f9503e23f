-- Internal: how faults are noted.
use Rattle.std.specs.Prelude.{◌≡◌, List}
use Rattle.pddl_types.specs.declared.faults.Fault.{Fault}
use Rattle.pddl_types.specs.declared.first.Notes.{Notes}
use Rattle.pddl_types.specs.Faults.{with_faults}

-- these faults were noted too
abbrev pub Noted : Notes → Notes → List Fault → Type 0
Noted old new faults = new.first ≡ with_faults old.first faults
