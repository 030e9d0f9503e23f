use Rattle.std.proofs.Common.{◌≡◌, ◌≤◌, ◌+◌, ◌*◌, ◌-◌, ℕ, List, Some, take, drop, slice_get, length, ap, sym, ◌∙◌, arith, rules}
use Rattle.binder.proofs.Parted.{length-parted, row_at, row_within}
use Rattle.binder.proofs.rows.Rows.row.Goals as goal

pub overflow_mul-start : goal.overflow_mul-start
overflow_mul-start c =
    let count : length c.args.self.now.1 ≡ c.self.inside.count =
    sym (ap (λ (v : ℕ × List (List ℕ)). length v.1) c.self.view_is) ∙ length-parted c.self.inside.width c.self.inside.count c.self.inside.cells.items in
    let within = row_within c.self.inside.width c.self.inside.count c.args.number (omega (arith, count, c.requires)) in
    omega (arith, within, c.self.invariant, c.self.inside.cells.ok.0, c.self.inside.cells.ok.1, c.self.inside.cells.small)

pub overflow_add-result : goal.overflow_add-result
overflow_add-result c =
    let count : length c.args.self.now.1 ≡ c.self.inside.count =
    sym (ap (λ (v : ℕ × List (List ℕ)). length v.1) c.self.view_is) ∙ length-parted c.self.inside.width c.self.inside.count c.self.inside.cells.items in
    let within = row_within c.self.inside.width c.self.inside.count c.args.number (omega (arith, count, c.requires)) in
    omega (arith, within, c.self.invariant, c.self.inside.cells.ok.0, c.self.inside.cells.ok.1, c.self.inside.cells.small)

pub offset_bounds-deref-start : goal.offset_bounds-deref-start
offset_bounds-deref-start c =
    let count : length c.args.self.now.1 ≡ c.self.inside.count =
    sym (ap (λ (v : ℕ × List (List ℕ)). length v.1) c.self.view_is) ∙ length-parted c.self.inside.width c.self.inside.count c.self.inside.cells.items in
    let within = row_within c.self.inside.width c.self.inside.count c.args.number (omega (arith, count, c.requires)) in
    let inside : c.args.number * c.self.inside.width + c.self.inside.width ≤ length c.self.inside.cells.items = omega (arith, within, c.self.invariant) in
    search rules

pub slice_bounds-result-end : goal.slice_bounds-result-end
slice_bounds-result-end c =
    let count : length c.args.self.now.1 ≡ c.self.inside.count =
    sym (ap (λ (v : ℕ × List (List ℕ)). length v.1) c.self.view_is) ∙ length-parted c.self.inside.width c.self.inside.count c.self.inside.cells.items in
    let within = row_within c.self.inside.width c.self.inside.count c.args.number (omega (arith, count, c.requires)) in
    let inside : c.args.number * c.self.inside.width + c.self.inside.width ≤ length c.self.inside.cells.items = omega (arith, within, c.self.invariant) in
    search rules

pub returns-clause-row : goal.returns-clause-row
returns-clause-row c =
    let w = c.self.inside.width in
    let start = c.args.number * w in
    let cells = c.self.inside.cells.items in
    let count : length c.args.self.now.1 ≡ c.self.inside.count =
    sym (ap (λ (v : ℕ × List (List ℕ)). length v.1) c.self.view_is) ∙ length-parted w c.self.inside.count cells in
    let span : w ≡ start + w - start = omega arith in
    sym (ap (λ (v : ℕ × List (List ℕ)). slice_get v.1 c.args.number) c.self.view_is)
    ∙ row_at w c.self.inside.count cells c.args.number (omega (arith, count, c.requires))
    ∙ ap (λ (k : ℕ). Some (take k (drop start cells))) span
    ∙ ap (λ (cs : List ℕ). Some (take (start + w - start) (drop start cs))) (sym c.deref.ensures.value)
