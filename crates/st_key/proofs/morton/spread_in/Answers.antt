use Rattle.st_key.proofs.Blocks.{and_lane}
use Rattle.st_key.proofs.morton.spread_in.Goals as goal

pub returns : goal.returns
returns c = and_lane c.args.address
