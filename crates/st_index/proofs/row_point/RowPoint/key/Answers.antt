use Rattle.std.proofs.Common.{rules}
use Rattle.st_index.proofs.row_point.RowPoint.key.Goals as goal

pub returns-in-Keyed : goal.returns-in-Keyed
returns-in-Keyed c = search rules
