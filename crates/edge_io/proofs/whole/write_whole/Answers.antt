use Rattle.std.proofs.Common.{arith}
use Rattle.edge_io.proofs.Bytes.{Appends-more}
use Rattle.edge_io.proofs.whole.write_whole.Goals as goal

pub pieces-preserved : goal.pieces-preserved
pieces-preserved g c =
    let went = c.in_ok-at.ensures in
    record {
      within = omega arith;
      appended = Appends-more _ _ _ c.args.bytes.now c.pieces.at c.in_ok-at.field-0 c.pieces.invariant.appended went.bytes;
      no_fault = cc went.cause.kept;
    }
