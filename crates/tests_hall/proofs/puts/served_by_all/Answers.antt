use denote.Param.Send.{sendable, given_sync}
use Rattle.std.proofs.Crossing.{crosses}
use Rattle.st_hall_desk.proofs.Crossing.{desk}
use Rattle.tests_hall.proofs.puts.served_by_all.Goals as goal

pub map_vec-requires-send-J : goal.map_vec-requires-send-J
map_vec-requires-send-J g c κs within = search (sendable, crosses, desk) depth 60 fits 100000

pub map_vec-requires-sync-F : goal.map_vec-requires-sync-F
map_vec-requires-sync-F g c κs within = let m = given_sync 1 g.row.M c.type_bounds.sync-M in let k = given_sync 2 g.row.G c.type_bounds.sync-G in
    let r = given_sync 3 g.row.R c.type_bounds.sync-R in search (sendable, crosses) depth 60 fits 100000
