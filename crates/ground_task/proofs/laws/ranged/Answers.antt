use Rattle.ground_task.proofs.Agreement.{blocked_leads_nowhere, next_leads, no_fails, only_next, yes_holds}
use Rattle.ground_task.proofs.laws.ranged.Goals as goal

pub returns-clause-next : goal.returns-clause-next
returns-clause-next c = λ t s number next. next_leads t s number next

pub returns-clause-only : goal.returns-clause-only
returns-clause-only c = λ t s number next other. only_next t s number next other

pub returns-clause-blocked : goal.returns-clause-blocked
returns-clause-blocked c = λ t s number next. blocked_leads_nowhere t s number next

pub returns-clause-yes : goal.returns-clause-yes
returns-clause-yes c = yes_holds

pub returns-clause-no : goal.returns-clause-no
returns-clause-no c = no_fails
