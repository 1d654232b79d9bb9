use Rattle.std.proofs.Common.{rules}
use Rattle.st_core.proofs.asked.Asked.is_change.Goals as goal

pub returns-in-Good : goal.returns-in-Good
returns-in-Good g c = search rules
