use Rattle.std.proofs.Common.{rules}
use Rattle.st_key.proofs.point.Point.new.Goals as goal

pub returns-else-x-lt-SIDE-clause-valid : goal.returns-else-x-lt-SIDE-clause-valid
returns-else-x-lt-SIDE-clause-valid c = search rules
