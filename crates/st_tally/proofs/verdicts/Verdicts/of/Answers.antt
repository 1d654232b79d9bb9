use Rattle.std.proofs.Common.{rules}
use Rattle.st_tally.proofs.verdicts.Verdicts.of.Goals as goal

pub returns-clause-known : goal.returns-clause-known
returns-clause-known g c = search rules
