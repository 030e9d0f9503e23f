use Rattle.std.proofs.Common.{ℕ, List, MatchOption, sym, subst}
use Rattle.num_ends.specs.Ends.{Interval}
use Rattle.cert_reader.specs.Spelling.{SpellsInterval}
use Rattle.cert_reader.proofs.Numbers.{no_comma}
use Rattle.cert_reader.proofs.values.interval_of.Goals as goal

pub returns-in-Some : goal.returns-in-Some
returns-in-Some c =
    subst (λ (t : List ℕ). MatchOption c.between.result ((i : Interval) → SpellsInterval c.args.places t i → ⊥) (SpellsInterval c.args.places t)) (sym c.in-Some.ensures.0) c.between.ensures

pub returns-in-None : goal.returns-in-None
returns-in-None c = no_comma c.args.places c.args.text.now c.in-None.ensures
