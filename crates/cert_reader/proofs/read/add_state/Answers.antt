use Rattle.std.proofs.Common.{refl}
use Rattle.cert_reader.proofs.InLines.{may_not}
use Rattle.cert_reader.proofs.read.add_state.Goals as goal

pub returns-in_default-clause-err : goal.returns-in_default-clause-err
returns-in_default-clause-err c =
    let none = rw c.in_default.is at c.in_ok-state.ensures in
    (refl, may_not c.args.task.now c.args.version c.args.cert.now.states c.args.line.now (λ b follows. c.requires.no_box b follows.1) none c.requires.no_end)
