use Rattle.std.proofs.Common.{◌≡◌, drop}
use Rattle.folded_terms.specs.internal.Unset.{unset_among}
use Rattle.folded_terms.proofs.unset.+conditions.Given as goal

abbrev pub invariant-unset_among-each : goal.invariant-unset_among-each
invariant-unset_among-each l = unset_among l.source.checked.now (drop l.cond-index l.conds) ≡ unset_among l.source.checked.now l.conds
