use Rattle.std.proofs.Common.{rules}
use Rattle.st_label.proofs.label.Label.is_normal.Goals as goal

pub returns : goal.returns
returns g c = search rules
