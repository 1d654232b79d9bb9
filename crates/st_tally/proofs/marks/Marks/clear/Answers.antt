use Rattle.std.proofs.Common.{rules}
use Rattle.st_tally.proofs.marks.Marks.clear.Goals as goal

pub returns : goal.returns
returns g c = search rules
