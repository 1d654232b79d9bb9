use denote.Param.Send.{sendable, given_sync}
use Rattle.std.proofs.Crossing.{crosses}
use Rattle.tests_hall.proofs.workers.Turns.TheSendSync as TurnsCross
use Rattle.tests_hall.proofs.workers.are_served_meanwhile.Goals as goal

pub join-held-requires-send-F : goal.join-held-requires-send-F
join-held-requires-send-F g c κs within = let m = given_sync 1 g.row.M c.type_bounds.sync-M in let r = given_sync 2 g.row.R c.type_bounds.sync-R in
    search (sendable, crosses, TurnsCross.the_sync) depth 60 fits 100000
