use Rattle.st_index.specs.Order.{scan_key}
use Rattle.st_table.proofs.Storing.{elsewhere, resorted}
use Rattle.st_table.proofs.law.table_rebuild.Goals as goal

pub returns : goal.returns
returns g c = λ rest period rows once none.
    resorted rest.table (scan_key period) rows rest.front rest.back (elsewhere rest.table rest.front none) once
