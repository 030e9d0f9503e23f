use Rattle.box_rows.specs.Systems.{system_of}
use Rattle.box_rows.proofs.SystemLaws.{lawful_monotone, system_lawful}
use Rattle.box_rows.proofs.laws.systems_are_monotone.Goals as goal

pub returns : goal.returns
returns c = λ t sup s ok. lawful_monotone (system_of t sup s) (system_lawful t sup s ok)
