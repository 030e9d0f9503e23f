use Rattle.std.proofs.Common.{arith, inl, inr, ◌⊎◌, ◌≡◌, ◌%◌}
use Rattle.num_ends.proofs.Inverses.{inverse_refused, inverse_given}
use Rattle.num_ends.proofs.dec.Dec.inverse.Goals as goal
use Rattle.num_ends.proofs.dec.Dec.inverse.Goals.{then-magnitude-eq0-via-then-magnitude-eq0, then-magnitude-eq0-via-else-magnitude-eq0+then-whole-magnitude-ne0}

pub returns-then-magnitude-eq0 : goal.returns-then-magnitude-eq0
returns-then-magnitude-eq0 c =
    let m = c.magnitude-magnitude.result in
    let w = c.inverse_unit-whole.result in
    let why : (m ≡ 0) ⊎ (w % m ≡ 0 → ⊥) = elim c.then-magnitude-eq0.branch [
      | then-magnitude-eq0-via-then-magnitude-eq0 v ↦ inl (omega arith)
      | then-magnitude-eq0-via-else-magnitude-eq0+then-whole-magnitude-ne0 v ↦ inr v.if-whole-magnitude-ne0.true
    ] in
    inverse_refused c.args.self m w c.magnitude-magnitude.ensures.value c.inverse_unit-whole.ensures.value why

pub returns : goal.returns
returns c =
    let n = rw c.is_negative.ensures at c.of_magnitude.ensures in
    inverse_given c.args.self c.magnitude-magnitude.result c.inverse_unit-whole.result c.magnitude-magnitude.ensures.value c.inverse_unit-whole.ensures.value (omega arith)
    c.drop_zeros-n.result.0 c.drop_zeros-n.result.1 c.drop_zeros-n.ensures.value (omega arith) c.of_magnitude.result n
