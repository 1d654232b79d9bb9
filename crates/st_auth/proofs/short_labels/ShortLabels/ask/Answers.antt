use Rattle.std.proofs.Common.{rules}
use Rattle.st_auth.proofs.short_labels.ShortLabels.ask.Goals as goal

pub returns-clause-known : goal.returns-clause-known
returns-clause-known g c = search rules
