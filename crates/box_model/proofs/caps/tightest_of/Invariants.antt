use Rattle.std.proofs.Common.{◌∷◌, take, filter_map}
use Rattle.box_model.specs.Caps.{IsTightest}
use Rattle.box_model.specs.Demands.{infinity, moved_end}
use Rattle.box_model.proofs.caps.tightest_of.Given as goal

abbrev pub invariant-each : goal.invariant-each
invariant-each l =
    IsTightest l.side (infinity l.side ∷ filter_map (moved_end l.side l.q l.x l.c) (take l.cond-index l.conds)) l.best
