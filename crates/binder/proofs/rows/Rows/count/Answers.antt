use Rattle.std.proofs.Common.{ℕ, List, length, ap, sym, ◌∙◌}
use Rattle.binder.proofs.Parted.{length-parted}
use Rattle.binder.proofs.rows.Rows.count.Goals as goal

pub returns : goal.returns
returns c = sym (length-parted c.self.inside.width c.self.inside.count c.self.inside.cells.items) ∙ ap (λ (v : ℕ × List (List ℕ)). length v.1) c.self.view_is
