use denote.Param.Send.{sendable, given_sync}
use Rattle.std.proofs.Crossing.{crosses}
use Rattle.st_hall.proofs.Crossing.{clerk}
use Rattle.tests_hall.proofs.opened.is_so_in.Goals as goal

pub is_so-found-requires-sync-M : goal.is_so-found-requires-sync-M
is_so-found-requires-sync-M g c κs within = let r = given_sync 1 g.row.R c.type_bounds.sync-R in search (sendable, crosses, clerk) depth 60 fits 100000
