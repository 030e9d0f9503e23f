use Rattle.answer_text.proofs.answers.lines_for.Goals as goal

pub returns-in_ok-line-in-Expansions-clause-ready : goal.returns-in_ok-line-in-Expansions-clause-ready
returns-in_ok-line-in-Expansions-clause-ready c = c.one_line.ensures.ready c.args.found.now.task

pub returns-in_ok-full_line-in-Filled-clause-ready : goal.returns-in_ok-full_line-in-Filled-clause-ready
returns-in_ok-full_line-in-Filled-clause-ready c = c.one_line-in-Filled.ensures.ready c.args.found.now.task
