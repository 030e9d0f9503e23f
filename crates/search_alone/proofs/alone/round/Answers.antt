use Rattle.std.proofs.Common.{subst}
use Rattle.search_turns.specs.declared.turns.Taken.{Taken}
use Rattle.search_turns.specs.declared.turns.Taken.TheVariants.{Job, NotYet}
use Rattle.search_core.proofs.Alone.{never_put_off}
use Rattle.search_core.specs.Searches.{Gets}
use Rattle.search_alone.proofs.Rounds.{has_taken, round_more}
use Rattle.search_alone.proofs.alone.round.Goals as goal

pub expand-requires-clause-taken : goal.expand-requires-clause-taken
expand-requires-clause-taken g c =
    let gets : Gets 0 (Job c.in-Job.node c.in-Job.state) c.args.search.now c.take.new.self = subst (λ (t : Taken). Gets 0 t c.args.search.now c.take.new.self) c.in-Job.is c.in_ok-node.ensures.ok in
    has_taken 0 c.in-Job.node c.in-Job.state c.args.search.now c.take.new.self gets.0 gets.1

pub returns-in_ok-expand-in-Job-clause-ok : goal.returns-in_ok-expand-in-Job-clause-ok
returns-in_ok-expand-in-Job-clause-ok g c =
    let gets : Gets 0 (Job c.in-Job.node c.in-Job.state) c.args.search.now c.take.new.self = subst (λ (t : Taken). Gets 0 t c.args.search.now c.take.new.self) c.in-Job.is c.in_ok-node.ensures.ok in
    let given = c.in_ok-expand-in-Job.ensures.ok in
    round_more c.in-Job.node c.args.search.now c.take.new.self c.expand.new.search c.requires.fed gets.0 given.0 given.1

pub returns-in-NotYet-clause-ok : goal.returns-in-NotYet-clause-ok
returns-in-NotYet-clause-ok g c =
    let gets : Gets 0 (NotYet c.in-NotYet.field-0) c.args.search.now c.take.new.self = subst (λ (t : Taken). Gets 0 t c.args.search.now c.take.new.self) c.in-NotYet.is c.in_ok-node.ensures.ok in
    absurd (never_put_off 0 c.in-NotYet.field-0 c.args.search.now c.take.new.self c.requires.fed.plain gets)
