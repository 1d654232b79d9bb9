-- A clerk and a worker may go to another thread.
use denote.RattleType.{RattleType}
use denote.Ref.{NamedLft}
use denote.Param.Send.{IsSend, IsSync, sendable}
use Rattle.std.proofs.Crossing.{crosses}
use Rattle.st_hall_desk.proofs.Crossing.{held_desk, held_front, held_kept, held_mark, held_press, held_scribe}
use Rattle.st_hall.specs.contracts.clerk.Clerk as Clerk
use Rattle.st_hall.specs.contracts.synced.Synced as Synced
use Rattle.st_hall.specs.contracts.worker.Worker as Worker
use Rattle.st_hall_press.specs.declared.name.HallName as hall
use Rattle.core.specs.declared.ledger.Ledger as ledger

pub clerk : (H R : RattleType) (h : hall.Ghosts H.Denot) (l : ledger.Ghosts H.Denot) (a : _) → IsSend R → IsSend (Clerk.the_row H R h l a)
clerk H R h l a s = search (sendable, crosses, held_mark, held_scribe, held_press) depth 60 fits 100000

synced : (H : RattleType) (h : hall.Ghosts H.Denot) (l : ledger.Ghosts H.Denot) → IsSend (Synced.the_field H h l).row
synced H h l = search (sendable, crosses, held_front, held_kept) depth 60 fits 100000

pub worker : (a : NamedLft) (H M G : RattleType) (h : hall.Ghosts H.Denot) (l : ledger.Ghosts H.Denot) (m : _) → IsSync M → IsSync G → IsSend (Worker.the_row a H M G h l m)
worker a H M G h l m s y = search (sendable, crosses, held_front, held_desk, synced) depth 60 fits 100000
