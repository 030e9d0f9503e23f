use Rattle.std.proofs.Common.{arith, ◌≡◌, ℕ, ◌<◌, ◌∷◌, [], List, All, sym, ap, ◌∙◌, subst}
use mathlib.Core.Option.{some}
use lib.ListN.{get_elem?}
use Rattle.atomic_table.specs.Table.{opening}
use Rattle.bound_words.specs.declared.seat.RelaxSeat.{RelaxSeat}
use Rattle.bound_words.specs.Rows.{IsRow}
use Rattle.bound_words.specs.Protocol.{Kept, first_view}
use Rattle.bound_words.specs.Seats.{IsNewSeat, IsFreshAt}
use Rattle.bound_words.proofs.Closing.{all_new}
use Rattle.bound_words.proofs.Sharing.{opens}
use Rattle.bound_words.proofs.table.RelaxTable.new.Goals as goal

pub of_words-requires : goal.of_words-requires
of_words-requires g c = let t = g.S.System.terms c.args.system in let start = c.args.start.now in let n = c.args.seats in let few = c.requires.seats in
    let st : c.of-2.result.value ≡ start = c.of-2.ensures ∙ (c.from_vec-first.ensures ∙ c.in_ok-to_vec.ensures.items_if_clones_equal (λ x y h. h)) in
    let ws : c.as_slice.result.now ≡ 0 ∷ 0 ∷ start = c.as_slice.ensures.value ∙ c.in_ok-words.ensures in
    let rules_are = c.rules-rules.ensures in let rules_fit = c.rules-rules.type_inv in let few_rules : t.rules < 4294967296 = omega arith in
    let is_row : IsRow t start = record { length_is = c.requires.row; fits = λ w h. let f = c.type_inv.start w in omega arith } in
    subst (λ s. Kept (g.S.System.terms s) c.of-2.result.value n (opening c.as_slice.result.now [] (first_view c.of-2.result.value n))) (sym c.of.ensures)
    (subst (λ (l : List ℕ). Kept t l n (opening c.as_slice.result.now [] (first_view l n))) (sym st)
    (subst (λ (l : List ℕ). Kept t start n (opening l [] (first_view start n))) (sym ws) (opens t start n is_row few.1 few_rules)))

pub returns-clause-seats : goal.returns-clause-seats
returns-clause-seats g c = λ i s at. let known = ap (λ k. k.system.value) c.in_ok-table.ensures.5 ∙ c.of.ensures in
    subst (λ x. IsNewSeat (g.S.System.terms x) c.args.start.now c.in_ok-table.table.shared.table_id i s) known (c.in_ok-list.ensures.each i s (subst (λ (l : List RelaxSeat). get_elem? l i ≡ some s) c.from_vec.ensures at))

pub returns-clause-each : goal.returns-clause-each
returns-clause-each g c = let key = c.in_ok-table.table.shared.key in let id = c.in_ok-table.table.shared.table_id in let t = g.S.System.terms key.system.value in
    let start : key.start.value ≡ c.args.start.now = ap (λ k. k.start.value) c.in_ok-table.ensures.5 ∙ (c.of-2.ensures ∙ (c.from_vec-first.ensures ∙ c.in_ok-to_vec.ensures.items_if_clones_equal (λ x y h. h))) in
    subst (λ (l : List ℕ). All (IsFreshAt t l id) c.from_vec.result) (sym start)
    (all_new t c.args.start.now id c.from_vec.result (λ i s at. c.in_ok-list.ensures.each i s (subst (λ (l : List RelaxSeat). get_elem? l i ≡ some s) c.from_vec.ensures at)))
