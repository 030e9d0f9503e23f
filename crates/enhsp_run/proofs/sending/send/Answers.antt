use Rattle.enhsp_run.proofs.Endings.{found_end, small_written, upgraded_end, written_end}
use Rattle.enhsp_run.proofs.sending.send.Goals as goal

pub send_written-requires : goal.send_written-requires
send_written-requires g c = small_written c.args.outcome c.in-Written.answer c.in-Written.is c.requires.small

pub returns-in-Written-clause-end : goal.returns-in-Written-clause-end
returns-in-Written-clause-end g c =
    written_end c.args.outcome _ _ _ _ c.send_written.result c.in-Written.answer c.in-Written.is c.send_written.ensures.end

pub returns-in-Found-clause-end : goal.returns-in-Found-clause-end
returns-in-Found-clause-end g c =
    found_end c.args.outcome _ _ _ _ c.send_found.result c.in-Found.form c.in-Found.found c.in-Found.is c.send_found.ensures

pub returns-in-Upgraded-clause-end : goal.returns-in-Upgraded-clause-end
returns-in-Upgraded-clause-end g c =
    upgraded_end c.args.outcome _ _ _ _ c.send_upgraded.result c.in-Upgraded.read c.in-Upgraded.is c.send_upgraded.ensures
