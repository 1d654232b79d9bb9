use Rattle.st_index.proofs.Sorting.{added_in_order as by_adding}
use Rattle.st_index.proofs.law.added_in_order.Goals as goal

pub returns : goal.returns
returns g c = by_adding
