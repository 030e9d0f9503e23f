use Rattle.cert_check.proofs.Verdicts.{no_plan_of}
use Rattle.cert_check.proofs.answers.check.Goals as goal

pub returns-clause-no_plan : goal.returns-clause-no_plan
returns-clause-no_plan c =
    let t = c.args.task.now in
    let cert = c.args.cert.now in
    no_plan_of t cert.boxes cert.states (λ good plan is. c.good_certificates_exclude_plans.ensures t cert.boxes cert.states plan c.raw-raw.ensures.placed good is)
    c.behind_boxes.result c.behind_boxes.ensures
