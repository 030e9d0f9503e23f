use Rattle.binder.proofs.Served.{item_stands}
use Rattle.binder.proofs.candidates.find_candidates.Goals as goal

pub candidates_by-requires-clause-stands : goal.candidates_by-requires-clause-stands
candidates_by-requires-clause-stands c = item_stands c.args.tester.now.checks.now c.each.check-index c.check-item.result c.each-test.true c.check-item.is
