use denote.Param.Send.{sendable, given_sync}
use Rattle.std.proofs.Crossing.{crosses}
use Rattle.st_command_line.specs.ServedArguments.{address_text}
use Rattle.st_hall.proofs.Crossing.{clerk}
use Rattle.st_server.proofs.Widening.{narrowed}
use Rattle.st_command_line.specs.declared.fault.Fault.TheVariants.{NoMemory, NoPlace}
use Rattle.st_server.proofs.Idle.{nobody}
use Rattle.st_server.proofs.memory.open_hall.Goals as goal

pub serve_at-requires-sync-M : goal.serve_at-requires-sync-M
serve_at-requires-sync-M g c κs within = let r = given_sync 4 g.row.R c.type_bounds.sync-R in search (sendable, crosses, clerk) depth 60 fits 100000

pub returns-in-Ok-clause-told : goal.returns-in-Ok-clause-told
returns-in-Ok-clause-told g c =
    let said = c.args.said.now in
    narrowed (address_text said.bind_address) said.connections (g.O.Write.contents c.args.output.now) (g.O.Write.contents c.serve_at.new.output) c.serve_at.result
    c.serve_at.ensures.failed c.serve_at.ensures.told

pub returns-in-Err-NoPlace-clause-attended : goal.returns-in-Err-NoPlace-clause-attended
returns-in-Err-NoPlace-clause-attended g c = nobody _ _ _ _ _ NoPlace (λ is. absurd (cc is))

pub returns-in-Err-NoMemory-clause-attended : goal.returns-in-Err-NoMemory-clause-attended
returns-in-Err-NoMemory-clause-attended g c = nobody _ _ _ _ _ NoMemory (λ is. absurd (cc is))
