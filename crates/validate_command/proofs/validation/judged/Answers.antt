use Rattle.std.proofs.Common.{rules, subst}
use Rattle.plan_validator.specs.declared.verdicts.Verdict.{Verdict}
use Rattle.plan_validator.specs.Verdicts.{IsVerdict}
use Rattle.validate_command.proofs.validation.judged.Goals as goal

pub returns : goal.returns
returns c = λ plan read. record {
  steps = c.args.steps.now;
  read = read;
  as_many = search rules;
  is_verdict = c.in_ok-verdict.ensures;
  is_plan = λ valid. c.valid_plans_are_plans.ensures c.args.checked.now c.args.steps.now
      (subst (λ (v : Verdict). IsVerdict c.args.checked.now c.args.steps.now v) valid c.in_ok-verdict.ensures);
}
