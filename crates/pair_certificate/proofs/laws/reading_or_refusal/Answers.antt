use Rattle.pair_certificate.proofs.OneReading.{no_refusal}
use Rattle.pair_certificate.proofs.laws.reading_or_refusal.Goals as goal

pub returns : goal.returns
returns c = no_refusal
