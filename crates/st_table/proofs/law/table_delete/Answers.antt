use Rattle.st_table.proofs.Storing.{elsewhere, table_delete}
use Rattle.st_table.proofs.law.table_delete.Goals as goal

pub returns : goal.returns
returns g c = λ rest id label rows apart.
    table_delete rest.table id label rows rest.front rest.back (elsewhere rest.table rest.front apart.0) (elsewhere rest.table rest.back apart.1)
