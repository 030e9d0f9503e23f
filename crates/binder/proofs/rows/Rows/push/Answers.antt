use Rattle.std.proofs.Common.{◌≡◌, ◌+◌, ◌++◌, ℕ, List, [], ◌∷◌, length, ap, sym, ◌∙◌, arith}
use Rattle.binder.specs.Tables.{parted}
use Rattle.binder.proofs.Parted.{length-parted, parted-append}
use Rattle.binder.proofs.rows.Rows.push.Goals as goal

pub overflow_add-self : goal.overflow_add-self
overflow_add-self c =
    let count : c.self.inside.count ≡ length c.args.self.now.1 =
    sym (length-parted c.self.inside.width c.self.inside.count c.self.inside.cells.items) ∙ ap (λ (v : ℕ × List (List ℕ)). length v.1) c.self.view_is in
    omega (arith, count, c.requires.room)

pub returns-clause-ok : goal.returns-clause-ok
returns-clause-ok c =
    let width : length c.args.row.now ≡ c.self.inside.width = c.requires.width ∙ sym (ap (λ (v : ℕ × List (List ℕ)). v.0) c.self.view_is) in
    ap (λ (cells : List ℕ). (c.self.inside.width, parted c.self.inside.width (c.self.inside.count + 1) cells)) c.in_ok-extend_from_slice.ensures.items
    ∙ ap (λ (rows : List (List ℕ)). (c.self.inside.width, rows)) (parted-append c.self.inside.width c.self.inside.count c.self.inside.cells.items c.args.row.now c.self.invariant width)
    ∙ ap (λ (v : ℕ × List (List ℕ)). (v.0, v.1 ++ c.args.row.now ∷ [])) c.self.view_is
