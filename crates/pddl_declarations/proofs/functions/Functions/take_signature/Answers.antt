use Rattle.std.proofs.Common.{refl, true}
use Rattle.pddl_declarations.proofs.FunctionLemmas.{taken_signature}
use Rattle.pddl_declarations.proofs.functions.Functions.take_signature.Goals as goal

pub returns : goal.returns
returns c =
    taken_signature c.args.text.now c.args.tree.now c.args.self.now (record { sigs = c.push_some.new.items; dashed = c.args.self.now.dashed; signed = true })
    c.args.notes.now.first c.signature.new.notes.first c.in_ok-sig.sig c.requires.a_signature c.requires.undashed c.requires.undashed refl c.in_ok-push_some.ensures c.in_ok-sig.ensures.faults c.in_ok-sig.ensures.value
