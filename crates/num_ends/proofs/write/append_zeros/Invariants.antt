use Rattle.std.proofs.Common.{◌≡◌, ◌++◌, replicate}
use Rattle.num_ends.proofs.write.append_zeros.Given as goal

abbrev pub invariant-loop-done : goal.invariant-loop-done
invariant-loop-done l = l.out ≡ l.fn.out ++ replicate l._done 48
