use Rattle.std.proofs.Common.{ℕ, List, [], ◌∷◌, ◌++◌, refl, ap}
use Rattle.cert_reader.proofs.InCuts.{not_word}
use Rattle.cert_reader.proofs.Numbers.{no_open_upper}
use Rattle.cert_reader.proofs.values.open_upper.Goals as goal

pub returns-then-is_word : goal.returns-then-is_word
returns-then-is_word c = ap (λ (r : List ℕ). r ++ 41 ∷ []) (c.is_word.ensures.0 c.if-is_word.true)

pub returns-in-Some : goal.returns-in-Some
returns-in-Some c = (c.args.digits.now, refl, c.in-Some.ensures)

pub returns-in-None : goal.returns-in-None
returns-in-None c = no_open_upper c.args.places c.args.digits.now (not_word c.is_word.result _ c.if-is_word.false c.is_word.ensures.1) c.in-None.ensures
