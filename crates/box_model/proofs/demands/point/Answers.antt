use Rattle.std.proofs.Common.{subst}
use Rattle.num_ends.specs.Decimal.{Decimal, InRange}
use Rattle.num_ends.proofs.Trimmed.{trimmed_range}
use Rattle.box_model.proofs.demands.point.Goals as goal

pub returns-clause-fits : goal.returns-clause-fits
returns-clause-fits c = λ q few.
    let range : InRange c.args.c.n = subst (λ (d : Decimal). InRange d.n) c.c.view_is c.c.invariant.in_range in
    ((few, trimmed_range c.args.c range), (few, trimmed_range c.args.c range))
