use Rattle.st_table.specs.Rows.{full_name}
use Rattle.st_text.proofs.Resorting.{filter_in_order}
use Rattle.st_table.proofs.law.filters_commute.Goals as goal

pub returns : goal.returns
returns g c = λ test rows. filter_in_order full_name test rows
