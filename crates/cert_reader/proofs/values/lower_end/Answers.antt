use Rattle.std.proofs.Common.{ℕ, List, MatchOption, sym, subst}
use Rattle.num_ends.specs.declared.ends.End.{End}
use Rattle.cert_reader.specs.Spelling.{SpellsLower}
use Rattle.cert_reader.proofs.values.lower_end.Goals as goal

pub returns-in-Some : goal.returns-in-Some
returns-in-Some c =
    subst (λ (t : List ℕ). MatchOption c.open_lower.result ((e : End) → SpellsLower c.args.places t e → ⊥) (SpellsLower c.args.places t)) (sym c.in-Some.ensures) c.open_lower.ensures
