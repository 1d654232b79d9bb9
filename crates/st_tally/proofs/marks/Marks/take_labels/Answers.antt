use Rattle.std.proofs.Common.{rules}
use Rattle.st_tally.proofs.marks.Marks.take_labels.Goals as goal

pub returns : goal.returns
returns g c = search rules
