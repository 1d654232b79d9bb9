use Rattle.st_core.proofs.RowLists.{others_stay}
use Rattle.st_core.proofs.law.other_tables_stay.Goals as goal

pub returns : goal.returns
returns g c request rows table listed apart = others_stay request rows table listed apart
