use Rattle.std.proofs.Common.{◌≡◌, ◌+◌, take}
use Rattle.std.specs.List.{sum_by}
use Rattle.mdf_order.proofs.spot.spot_from.Given as goal

abbrev pub invariant-loop-item : goal.invariant-loop-item
invariant-loop-item g l =
    sum_by g.T.Counted.count (take l.item l.row) + l.left ≡ sum_by g.T.Counted.count (take l.from l.row) + l.place
