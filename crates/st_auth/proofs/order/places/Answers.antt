use Rattle.std.proofs.Common.{rules}
use Rattle.st_auth.proofs.Search.{range_more}
use Rattle.st_auth.proofs.order.places.Goals as goal

pub loop-place-preserved : goal.loop-place-preserved
loop-place-preserved g c = search (rules, range_more)
