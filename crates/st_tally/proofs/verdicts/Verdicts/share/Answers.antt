use Rattle.std.proofs.Common.{rules}
use Rattle.st_tally.proofs.verdicts.Verdicts.share.Goals as goal

pub returns-else-of-clause-share : goal.returns-else-of-clause-share
returns-else-of-clause-share g c = search rules
