-- Why a file isn't read.
use Rattle.std.specs.Prelude.{◌≡◌, ℕ}
use Rattle.edge_io.specs.Causes.{Rose}
use Rattle.edge_io.specs.declared.whole.ReadFault.{ReadFault}
use Rattle.edge_io.specs.declared.whole.ReadFault.TheVariants.{Failed, NoMemory}

-- a failed read was counted as a fault, and want of memory is none
abbrev pub IsCause : ℕ → ℕ → ReadFault → Type 0
IsCause before now Failed = Rose before now
IsCause before now NoMemory = now ≡ before
