use Rattle.std.proofs.Common.{refl, arith}
use Rattle.cert_reader.proofs.InLines.{may_not, no_box_behind}
use Rattle.cert_reader.proofs.read.add_box.Goals as goal

pub returns-then-len-gt0-clause-err : goal.returns-then-len-gt0-clause-err
returns-then-len-gt0-clause-err c =
    (refl, may_not c.args.task.now c.args.version c.args.cert.now.states c.args.line.now (no_box_behind c.args.task.now c.args.version c.args.cert.now.states c.args.line.now (omega (arith, c.if-len-gt0.true, c.len.ensures))) c.requires.no_state c.requires.no_end)

pub returns-in_default-clause-err : goal.returns-in_default-clause-err
returns-in_default-clause-err c =
    let none = rw c.in_default.is at c.in_ok-own.ensures in
    (refl, may_not c.args.task.now c.args.version c.args.cert.now.states c.args.line.now (λ b follows. none b follows.1) c.requires.no_state c.requires.no_end)
