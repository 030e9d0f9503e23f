use Rattle.search_records.proofs.Complete.{dead_start, decided}
use Rattle.search_records.proofs.laws.enough_room_decides.Goals as goal

pub returns : goal.returns
returns c = record {
  room = λ most t limit workers r a room box_room placed is found told has. decided most room box_room t limit workers placed r is a found told has;
  dead = λ most t limit workers r a room box_room placed is found told dead. dead_start most room box_room t limit workers placed r is a found told dead;
}
