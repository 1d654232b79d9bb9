use Rattle.std.proofs.Common.{rules}
use Rattle.st_connection.proofs.streams.FromReadSource.read.Goals as goal

pub returns-after-n-eq0-clause-ended : goal.returns-after-n-eq0-clause-ended
returns-after-n-eq0-clause-ended g c = search rules
