use Rattle.std.proofs.Common.{rules}
use Rattle.st_index.proofs.room.take_over.Goals as goal

pub returns-clause-items : goal.returns-clause-items
returns-clause-items g c = search rules
