use Rattle.std.proofs.Common.{rules}
use Rattle.st_table.proofs.moving.everywhere.Goals as goal

pub returns : goal.returns
returns c = search rules
