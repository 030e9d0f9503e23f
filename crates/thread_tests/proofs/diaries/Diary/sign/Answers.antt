use Rattle.thread_tests.proofs.Signing.{signed}
use Rattle.thread_tests.proofs.diaries.Diary.sign.Goals as goal

pub returns-clause-lines : goal.returns-clause-lines
returns-clause-lines c = signed c.args.self.now.lines c.push.new.self c.args.worker c.args.page c.push.result c.push.ensures.ok c.push.ensures.err
