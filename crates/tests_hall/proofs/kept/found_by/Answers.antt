use denote.Param.Send.{sendable, given_sync}
use Rattle.std.proofs.Crossing.{crosses}
use Rattle.st_hall_group_commit.proofs.Crossing.{durable_hall}
use Rattle.tests_hall.proofs.kept.found_by.Goals as goal

pub served_by_all-told-requires-sync-M : goal.served_by_all-told-requires-sync-M
served_by_all-told-requires-sync-M g c κs within = let r = given_sync 2 g.row.R c.type_bounds.sync-R in search (sendable, crosses, durable_hall) depth 60 fits 100000
