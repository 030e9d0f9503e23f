use Rattle.dead_ends.proofs.Proved.{good_proved, proved_good, proved_nowhere_over}
use Rattle.dead_ends.proofs.laws.proved_certificates_are_the_good_ones.Goals as goal

pub returns : goal.returns
returns c = record { good = proved_good; nowhere_over = proved_nowhere_over; proved = good_proved }
