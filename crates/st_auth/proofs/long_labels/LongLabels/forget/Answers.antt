use Rattle.std.proofs.Common.{rules}
use Rattle.st_auth.proofs.long_labels.LongLabels.forget.Goals as goal

pub returns-clause-held : goal.returns-clause-held
returns-clause-held g c = search rules
