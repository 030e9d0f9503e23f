use Rattle.std.proofs.Common.{ℕ, List, MatchOption, sym, subst}
use Rattle.num_ends.specs.declared.ends.End.{End}
use Rattle.cert_reader.specs.Spelling.{SpellsUpper}
use Rattle.cert_reader.proofs.values.upper_end.Goals as goal

pub returns-in-Some : goal.returns-in-Some
returns-in-Some c =
    subst (λ (t : List ℕ). MatchOption c.open_upper.result ((e : End) → SpellsUpper c.args.places t e → ⊥) (SpellsUpper c.args.places t)) (sym c.in-Some.ensures) c.open_upper.ensures
