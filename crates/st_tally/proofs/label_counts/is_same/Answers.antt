use Rattle.std.proofs.Common.{rules}
use Rattle.st_tally.proofs.label_counts.is_same.Goals as goal

pub returns : goal.returns
returns g c = search rules
