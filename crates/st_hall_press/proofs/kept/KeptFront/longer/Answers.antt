use Rattle.std.proofs.Common.{rules}
use Rattle.st_hall_press.proofs.kept.KeptFront.longer.Goals as goal

pub returns-then-len-clause-this : goal.returns-then-len-clause-this
returns-then-len-clause-this g c = search rules

pub returns-else-len-clause-that : goal.returns-else-len-clause-that
returns-else-len-clause-that g c = search rules
