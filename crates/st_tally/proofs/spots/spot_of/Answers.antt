use Rattle.std.proofs.Common.{rules}
use Rattle.st_tally.proofs.spots.spot_of.Goals as goal

pub returns-clause-some : goal.returns-clause-some
returns-clause-some c = search rules
