use Rattle.std.proofs.Common.{rules}
use Rattle.st_tally.proofs.spots.SpotBox.has.Goals as goal

pub returns : goal.returns
returns c = search rules
