use Rattle.std.proofs.Common.{rules}
use Rattle.st_index.proofs.rows_view.RowsView.is_empty.Goals as goal

pub returns-in-One : goal.returns-in-One
returns-in-One g c = search rules
