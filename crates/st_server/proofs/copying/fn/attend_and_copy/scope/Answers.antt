use denote.Param.Send.{sendable, given_sync}
use Rattle.std.proofs.Crossing.{crosses}
use Rattle.st_server.proofs.copying.Bell.TheSendSync as BellCross
use Rattle.st_server.proofs.copying.fn.attend_and_copy.scope.Goals as goal

pub spawn-thread-requires-send-F : goal.spawn-thread-requires-send-F
spawn-thread-requires-send-F g c κs within = let r = given_sync 5 g.row.R c.requires.0 in let l = c.requires.1.0 in let k = c.requires.1.1 in
    search (sendable, crosses, BellCross.the_sync) depth 60 fits 100000
