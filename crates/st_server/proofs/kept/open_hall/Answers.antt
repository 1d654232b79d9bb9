use denote.RattleType.{RattleType}
use denote.Param.Send.{IsSend, IsSync, sendable, given_sync}
use Rattle.std.proofs.Crossing.{crosses}
use Rattle.st_hall_press.specs.contracts.front.Front as Front
use Rattle.st_hall_press.proofs.front.Front.TheSendSync as FrontCross
use Rattle.st_hall_group_commit.proofs.Crossing.{held_draft, held_publisher}
use Rattle.st_hall_group_commit.proofs.Crossing.{durable_hall, held_board}
use Rattle.st_hall_group_commit.specs.contracts.hall.DurableHall as DurableHall
use Rattle.st_command_line.specs.declared.fault.Fault.TheVariants.{NoMemory, NoPlace}
use Rattle.st_server.proofs.Idle.{nobody}
use Rattle.st_server.proofs.kept.open_hall.Goals as goal

-- as a struct's field has it, which is how `search` meets it
held_hall : (B H R J : RattleType) (b : _) (h : _) (l : _) (j : _) → IsSend R → IsSync R → IsSend J → IsSync (DurableHall.the_field B H R J b h l j).row
held_hall B H R J b h l j s y t = search (sendable, crosses, held_draft, held_publisher, held_board) depth 60 fits 100000

held_front : (H : RattleType) (h : _) (l : _) → IsSend (Front.the_field H h l).row
held_front H h l = FrontCross.the_send H h l

pub serve_at-requires-sync-M : goal.serve_at-requires-sync-M
serve_at-requires-sync-M g c κs within = let r = given_sync 6 g.row.R c.type_bounds.sync-R in let j = c.type_bounds.send-J in
    search (sendable, crosses, durable_hall) depth 60 fits 100000

pub serve_at-requires-send-L : goal.serve_at-requires-send-L
serve_at-requires-send-L g c κs within = let r = given_sync 6 g.row.R c.type_bounds.sync-R in let j = c.type_bounds.send-J in
    search (sendable, crosses, held_front, held_hall) depth 60 fits 100000

pub returns-in-Err-NoPlace-clause-attended : goal.returns-in-Err-NoPlace-clause-attended
returns-in-Err-NoPlace-clause-attended g c = nobody _ _ _ _ _ NoPlace (λ is. absurd (cc is))

pub returns-clause-attended : goal.returns-clause-attended
returns-clause-attended g c = nobody _ _ _ _ _ NoMemory (λ is. absurd (cc is))
