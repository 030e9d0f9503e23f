use Rattle.std.proofs.Common.{refl}
use Rattle.upgrade_command.specs.Answers.{upgraded}
use Rattle.enhsp_run.specs.Told.{plainly}
use Rattle.enhsp_run.proofs.sending.send_upgraded.Goals as goal

pub returns : goal.returns
returns g c =
    c.end_sent.ensures (plainly (upgraded c.args.read.task c.args.read.cert)) _ _ refl refl c.send_upgrade-sent.ensures.text c.send_upgrade-sent.ensures.cause
