use Rattle.st_lanes.proofs.Places.{in_box_by_address}
use Rattle.st_lanes.proofs.law.places.Goals as goal

pub returns : goal.returns
returns c = in_box_by_address
