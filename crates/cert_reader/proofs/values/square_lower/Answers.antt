use Rattle.std.proofs.Common.{ℕ, List, MatchOption, sym, subst}
use Rattle.num_ends.specs.declared.ends.End.{End}
use Rattle.cert_reader.specs.Spelling.{SpellsLower}
use Rattle.cert_reader.proofs.Numbers.{no_lower_end}
use Rattle.cert_reader.proofs.values.square_lower.Goals as goal

pub returns-in-Some : goal.returns-in-Some
returns-in-Some c =
    subst (λ (t : List ℕ). MatchOption c.closed_lower.result ((e : End) → SpellsLower c.args.places t e → ⊥) (SpellsLower c.args.places t)) (sym c.in-Some.ensures) c.closed_lower.ensures

pub returns-in-None : goal.returns-in-None
returns-in-None c = no_lower_end c.args.places c.args.text.now c.requires.not_round c.in-None.ensures
