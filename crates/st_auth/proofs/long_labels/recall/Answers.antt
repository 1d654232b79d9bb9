use Rattle.std.proofs.Common.{rules}
use Rattle.st_auth.proofs.long_labels.recall.Goals as goal

pub returns-clause-value : goal.returns-clause-value
returns-clause-value g c = search rules

pub returns-clause-entries : goal.returns-clause-entries
returns-clause-entries g c = search rules
