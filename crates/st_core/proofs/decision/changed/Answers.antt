use Rattle.std.proofs.Common.{rules}
use Rattle.st_core.proofs.decision.changed.Goals as goal

pub returns-in-Ok : goal.returns-in-Ok
returns-in-Ok g c = search rules
