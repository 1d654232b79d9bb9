use Rattle.std.proofs.Common.{rules}
use Rattle.st_table.proofs.table.Table.rebuild.Goals as goal

pub returns-clause-ok : goal.returns-clause-ok
returns-clause-ok g c = search rules
