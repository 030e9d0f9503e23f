use Rattle.pair_certificate.proofs.OneReading.{same_reading}
use Rattle.pair_certificate.proofs.laws.texts_have_one_reading.Goals as goal

pub returns : goal.returns
returns c = λ domain problem certificate task other cert further few fewer. same_reading domain problem certificate few fewer task other cert further
