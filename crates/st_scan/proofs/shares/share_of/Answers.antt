use Rattle.std.proofs.Common.{rules}
use Rattle.st_scan.proofs.shares.share_of.Goals as goal

pub returns-clause-value : goal.returns-clause-value
returns-clause-value c = search rules
