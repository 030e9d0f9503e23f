use Rattle.search_records.proofs.Sound.{sound}
use Rattle.search_records.proofs.laws.legal_records_are_sound.Goals as goal

pub returns : goal.returns
returns c = λ most t limit workers r room box_room few few_boxes placed is. sound most room box_room few few_boxes t limit workers placed r is
