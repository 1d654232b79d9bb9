use Rattle.std.proofs.Common.{rules}
use Rattle.st_label.proofs.label.Label.is_same.Goals as goal

pub returns-in_default : goal.returns-in_default
returns-in_default g c = search rules
