use Rattle.std.proofs.Common.{rules}
use Rattle.st_tally.proofs.bounds.Bounds.lies_in.Goals as goal

pub returns-then-t0-self : goal.returns-then-t0-self
returns-then-t0-self c = search rules
