use Rattle.static_facts.specs.Atoms.{names}
use Rattle.folding.proofs.Outcomes.{made_of}
use Rattle.folding.proofs.folder.Folder.kept.Goals as goal

pub returns-in-Ok : goal.returns-in-Ok
returns-in-Ok c = made_of c.args.self.now.0 c.args.self.now.1 (names c.args.self.now.0 c.args.objects.now) c.in-Ok.facts c.args.parts c.coded.result c.in-Ok.ensures c.coded.ensures
