use Rattle.std.proofs.Common.{rules, ◌≡◌, [], ◌∷◌, List, length, Option, Some, sym, ap, ◌∙◌, subst}
use Rattle.atomic_table.specs.Table.{opening}
use Rattle.turn_lock.specs.Turns.{Kept}
use Rattle.turn_lock.specs.Words.{waiting, marks_from}
use Rattle.turn_lock.proofs.SeatSteps.{opens}
use Rattle.turn_lock.proofs.turn.Turn.new.Goals as goal

pub new-requires : goal.new-requires
new-requires g c = let t = g.T.Told in let value = c.of.result.value in let n = c.told-length.result in let same : value ≡ c.args.value = c.of.ensures in
    let put : c.push_reserved.new.self.items ≡ Some c.args.value ∷ [] = search rules in let slots : c.push_reserved.new.self.items ≡ Some value ∷ [] = put ∙ ap (λ x. Some x ∷ []) (sym same) in
    subst (λ (xs : List (Option g.row.T.Denot)). Kept t.terms t.journal value c.args.seats (opening (n ∷ 0 ∷ []) xs (waiting (marks_from 0 c.args.seats (t.journal value))))) (sym slots)
    (opens t.terms t.journal value c.args.seats n (c.told-length.ensures ∙ ap (λ x. length (t.journal x)) (sym same)))
