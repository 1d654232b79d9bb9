use Rattle.std.proofs.Common.{◌/◌}
use Rattle.st_box.proofs.Lanes.{lane_is, gather-lane, same_spot}
use Rattle.st_box.proofs.corner.Corner.at.Goals as goal

pub invariant_of-result : goal.invariant_of-result
invariant_of-result c = let a = c.args.address in (lane_is a, lane_is (a / 2), lane_is (a / 4))

pub returns : goal.returns
returns c = let a = c.args.address in same_spot _ _ _ _ _ _ (gather-lane a) (gather-lane (a / 2)) (gather-lane (a / 4))
