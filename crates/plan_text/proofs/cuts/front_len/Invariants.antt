use Rattle.std.proofs.Common.{◌≡◌, ◌+◌, drop}
use Rattle.std.specs.List.{prefix_len}
use Rattle.plan_text.specs.internal.Reading.{is_of}
use Rattle.plan_text.proofs.cuts.front_len.Given as goal

abbrev pub invariant-loop-at : goal.invariant-loop-at
invariant-loop-at l = l.at + prefix_len (is_of l.kind) (drop l.at l.text) ≡ prefix_len (is_of l.kind) l.text
