use Rattle.st_index.proofs.Sorting.{in_order_already, scan_filter}
use Rattle.st_index.proofs.law.scan_order.Goals as goal

pub returns-clause-sorted : goal.returns-clause-sorted
returns-clause-sorted g c = in_order_already

pub returns-clause-filtered : goal.returns-clause-filtered
returns-clause-filtered g c = scan_filter
