use Rattle.numbering.proofs.InOrder.{rising_from}
use Rattle.numbering.proofs.rising.rising.Goals as goal

pub returns : goal.returns
returns c =
    rising_from c.args.codes.items c.sort_unstable.new.self.items c.dedup.new.self.items c.sort_unstable.ensures.permutation c.sort_unstable.ensures.sorted
    c.dedup.ensures.filtered
