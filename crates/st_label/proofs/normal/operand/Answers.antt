use Rattle.std.proofs.Common.{rules}
use Rattle.st_label.proofs.normal.operand.Goals as goal

pub returns : goal.returns
returns g c = search rules
