use Rattle.std.proofs.Common.{◌≡◌, true, is_some, ap, sym, ◌∙◌}
use Rattle.pddl_meaning.proofs.Comparisons.{value_reads}
use Rattle.pddl_meaning.proofs.effects.is_defined.Goals as goal

pub returns-then-is_some : goal.returns-then-is_some
returns-then-is_some c =
    let there : is_some c.args.value ≡ true = cc in
    sym (value_reads c.args.binding.now.params.now c.args.binding.now.args.now c.args.binding.now.world.now c.args.expr.now (ap is_some (sym c.requires) ∙ there))
