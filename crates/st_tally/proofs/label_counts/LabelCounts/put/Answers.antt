use Rattle.std.proofs.Common.{rules}
use Rattle.st_tally.proofs.label_counts.LabelCounts.put.Goals as goal

pub returns : goal.returns
returns g c = search rules

pub returns-then-not-self : goal.returns-then-not-self
returns-then-not-self g c = search rules
