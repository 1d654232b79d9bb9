use Rattle.std.proofs.Common.{rules}
use Rattle.st_index.proofs.room.with_room.Goals as goal

pub returns-clause-same : goal.returns-clause-same
returns-clause-same g c = search rules
