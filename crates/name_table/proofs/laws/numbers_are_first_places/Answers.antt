use Rattle.name_table.proofs.Numbered.{number_is_place}
use Rattle.name_table.proofs.laws.numbers_are_first_places.Goals as goal

pub returns : goal.returns
returns c = number_is_place
