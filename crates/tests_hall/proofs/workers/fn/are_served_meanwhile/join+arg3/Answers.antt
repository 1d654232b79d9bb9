use denote.Param.Send.{sendable, given_sync}
use Rattle.std.proofs.Crossing.{crosses}
use Rattle.tests_hall.proofs.workers.Turns.TheSendSync as TurnsCross
use Rattle.tests_hall.proofs.workers.fn.are_served_meanwhile.join+arg3.Goals as goal

pub served_by_all-requires-sync-G : goal.served_by_all-requires-sync-G
served_by_all-requires-sync-G g c κs within = let r = given_sync 2 g.row.R c.requires.0 in let m = given_sync 1 g.row.M c.requires.1.0 in
    search (sendable, crosses, TurnsCross.the_sync) depth 60 fits 100000
