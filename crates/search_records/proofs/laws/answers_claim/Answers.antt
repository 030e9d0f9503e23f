use Rattle.search_records.proofs.Meaning.{legal_claims}
use Rattle.search_records.proofs.laws.answers_claim.Goals as goal

pub returns : goal.returns
returns c = λ most t limit workers r a room box_room placed is found. legal_claims most room box_room t limit workers r a placed is found
