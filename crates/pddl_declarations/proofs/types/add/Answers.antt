use Rattle.std.proofs.Common.{not, ap, ◌∙◌}
use Rattle.pddl_declarations.proofs.Known.{among_references, inserted}
use Rattle.pddl_declarations.proofs.types.add.Goals as goal

pub returns-clause-added : goal.returns-clause-added
returns-clause-added c = c.in_ok-added.ensures.added ∙ ap not (among_references c.args.word.now c.args.known.now.keys)

pub returns-clause-words : goal.returns-clause-words
returns-clause-words c = inserted c.args.word c.args.known.now.keys c.insert.new.self.keys c.in_ok-added.ensures.keys
