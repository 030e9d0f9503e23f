use Rattle.search_records.proofs.Meaning.{legal_statuses}
use Rattle.search_records.proofs.laws.statuses_are_right.Goals as goal

pub returns : goal.returns
returns c = λ most t limit workers r n x room box_room placed is at. legal_statuses most room box_room t limit workers r n x placed is at
