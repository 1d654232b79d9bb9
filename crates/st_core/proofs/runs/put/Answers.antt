use Rattle.std.proofs.Common.{rules}
use Rattle.st_core.proofs.runs.put.Goals as goal

pub returns-clause-items : goal.returns-clause-items
returns-clause-items g c = search rules
