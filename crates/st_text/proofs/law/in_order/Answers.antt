use Rattle.st_text.proofs.Sorted.{in_order-IsSortedByKey, in_order-IsPermutation}
use Rattle.st_text.proofs.law.in_order.Goals as goal

pub returns-clause-sorted : goal.returns-clause-sorted
returns-clause-sorted g c = in_order-IsSortedByKey

pub returns-clause-same : goal.returns-clause-same
returns-clause-same g c = in_order-IsPermutation
