use Rattle.std.proofs.Common.{ℕ, List, MatchOption, sym, subst}
use Rattle.num_ends.specs.declared.ends.End.{End}
use Rattle.cert_reader.specs.Spelling.{SpellsUpper}
use Rattle.cert_reader.proofs.Numbers.{no_upper_end}
use Rattle.cert_reader.proofs.values.square_upper.Goals as goal

pub returns-in-Some : goal.returns-in-Some
returns-in-Some c =
    subst (λ (t : List ℕ). MatchOption c.closed_upper.result ((e : End) → SpellsUpper c.args.places t e → ⊥) (SpellsUpper c.args.places t)) (sym c.in-Some.ensures) c.closed_upper.ensures

pub returns-in-None : goal.returns-in-None
returns-in-None c = no_upper_end c.args.places c.args.text.now c.requires.not_round c.in-None.ensures
