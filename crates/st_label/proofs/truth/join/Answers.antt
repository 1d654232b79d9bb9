use Rattle.std.proofs.Common.{rules}
use Rattle.st_label.proofs.truth.join.Goals as goal

pub returns-then-one : goal.returns-then-one
returns-then-one c = search rules

pub returns-else-one : goal.returns-else-one
returns-else-one c = search rules
