use Rattle.st_table.proofs.Storing.{elsewhere, table_dropped}
use Rattle.st_table.proofs.law.table_drop.Goals as goal

pub returns : goal.returns
returns g c = λ rest rows apart.
    table_dropped rest.table rows rest.front rest.back (elsewhere rest.table rest.front apart.0) (elsewhere rest.table rest.back apart.1)
