use Rattle.std.proofs.Common.{refl}
use Rattle.folded_terms.proofs.TopMembers.{appended_And, appended_Or, pushed_And, pushed_Or, pushed_other}
use Rattle.folded_terms.proofs.joints.push_member.Goals as goal

pub returns-then-conjunction : goal.returns-then-conjunction
returns-then-conjunction c = appended_And c.args.conjunction c.args.members.now c.append.new.self c.in-And.conds c.args.cond c.in-And.is c.if-conjunction.true c.in_ok-append-in-And.ensures

pub returns-then-conjunction-2 : goal.returns-then-conjunction-2
returns-then-conjunction-2 c =
    pushed_Or c.args.conjunction c.args.members.now c.push-then-conjunction-2.new.self c.in-Or.conds c.args.cond c.in-Or.is c.if-conjunction-2.true c.in_ok-push-in-Or.ensures.ok

pub returns-in_ok-push-in-And : goal.returns-in_ok-push-in-And
returns-in_ok-push-in-And c = pushed_And c.args.conjunction c.args.members.now c.push.new.self c.in-And.conds c.args.cond c.in-And.is c.if-conjunction.false c.in_ok-push-in-And.ensures.ok

pub returns-in_ok-append-in-Or : goal.returns-in_ok-append-in-Or
returns-in_ok-append-in-Or c = appended_Or c.args.conjunction c.args.members.now c.append-in-Or.new.self c.in-Or.conds c.args.cond c.in-Or.is c.if-conjunction-2.false c.in_ok-append-in-Or.ensures

pub returns-in_ok-push-in_default : goal.returns-in_ok-push-in_default
returns-in_ok-push-in_default c =
    pushed_other c.args.conjunction c.args.members.now c.push-in_default.new.self c.args.cond c.args.cond c.in_default.not-And c.in_default.not-Or refl c.in_ok-push-in_default.ensures.ok
