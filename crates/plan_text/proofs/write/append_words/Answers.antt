use Rattle.std.proofs.Common.{arith}
use Rattle.std.proofs.lemmas.Grind.{common_steps}
use Rattle.plan_text.proofs.Written.{joined}
use Rattle.plan_text.proofs.write.append_words.Goals as goal

pub returns-clause-ok : goal.returns-clause-ok
returns-clause-ok c = rw (joined c.args.name.now c.args.others.now) (grind (arith, common_steps))
