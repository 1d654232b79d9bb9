use Rattle.std.proofs.Common.{rules}
use Rattle.st_label.proofs.truth.joined.Goals as goal

pub returns-else-ne : goal.returns-else-ne
returns-else-ne c = search rules
