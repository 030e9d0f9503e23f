use Rattle.std.proofs.Common.{◌≡◌}
use Rattle.grounder.proofs.Listing.{true_among}
use Rattle.grounder.proofs.atoms.true_facts.Given as goal

abbrev pub invariant-each : goal.invariant-each
invariant-each l = l.numbers.items ≡ true_among l.statics l.codes l.place
