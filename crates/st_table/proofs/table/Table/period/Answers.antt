use Rattle.std.proofs.Common.{rules}
use Rattle.st_table.proofs.table.Table.period.Goals as goal

pub returns-clause-value : goal.returns-clause-value
returns-clause-value g c = search rules
