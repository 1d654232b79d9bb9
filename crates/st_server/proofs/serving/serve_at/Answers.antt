use denote.Param.Send.{sendable, given_sync}
use Rattle.std.proofs.Crossing.{crosses}
use Rattle.st_hall_station.proofs.Crossing.{station}
use Rattle.st_server.proofs.stations.Open.TheSendSync as OpenCross
use Rattle.st_command_line.specs.declared.fault.Fault.TheVariants.{NoMemory}
use Rattle.st_server.proofs.Idle.{nobody}
use Rattle.st_server.proofs.serving.serve_at.Goals as goal

pub announce-requires-send-T : goal.announce-requires-send-T
announce-requires-send-T g c κs within = let m = given_sync 1 g.row.M c.type_bounds.sync-M in let r = given_sync 6 g.row.R c.type_bounds.sync-R in
    search (sendable, crosses, station, OpenCross.the_sync) depth 60 fits 100000

pub returns-in-Err-clause-attended : goal.returns-in-Err-clause-attended
returns-in-Err-clause-attended g c = nobody _ _ _ _ _ NoMemory (λ is. absurd (cc is))
