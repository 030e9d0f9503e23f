use Rattle.std.proofs.Common.{◌≡◌, ◌≢◌, Some}
use Rattle.turn_lock.proofs.Histories.{place_stays}
use Rattle.turn_lock.proofs.laws.entries_stay.Goals as goal

pub returns : goal.returns
returns c = record { others = λ worker. place_stays (λ entry. entry.worker ≢ Some worker); own = λ worker. place_stays (λ entry. entry.worker ≡ Some worker) }
