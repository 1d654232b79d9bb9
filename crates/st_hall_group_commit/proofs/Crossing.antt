-- A draft and a publisher may go to another thread, the publisher if its journal may, and threads may then share their hall. Rattle makes
-- no such lemma, as it makes none for a scribe and a press.
use denote.RattleType.{RattleType}
use denote.Param.Send.{IsSend, IsSync, sendable}
use Rattle.std.proofs.Crossing.{crosses}
use Rattle.st_hall_desk.proofs.Crossing.{held_front, held_kept, held_mark, held_press, held_scribe}
use Rattle.st_hall_press.proofs.edition.Queued.TheSendSync as QueuedCross
use Rattle.st_hall_group_commit.specs.contracts.board.Board as Board
use Rattle.st_hall_group_commit.specs.contracts.draft.Draft as Draft
use Rattle.st_hall_group_commit.specs.contracts.hall.DurableHall as DurableHall
use Rattle.st_hall_group_commit.specs.contracts.publisher.Publisher as Publisher

pub draft : (H : RattleType) (h : _) (l : _) → IsSend (Draft.the_row H h l)
draft H h l = search (sendable, crosses, held_front, held_scribe, QueuedCross.the_send) depth 60 fits 100000

pub held_draft : (H : RattleType) (h : _) (l : _) → IsSend (Draft.the_field H h l).row
held_draft H h l = draft H h l

pub publisher : (B H R J : RattleType) (b : _) (h : _) (l : _) (j : _) → IsSend R → IsSend J → IsSend (Publisher.the_row B H R J b h l j)
publisher B H R J b h l j s t = search (sendable, crosses, held_front, held_kept, held_mark, held_press) depth 60 fits 100000

pub held_publisher : (B H R J : RattleType) (b : _) (h : _) (l : _) (j : _) → IsSend R → IsSend J → IsSend (Publisher.the_field B H R J b h l j).row
held_publisher B H R J b h l j s t = publisher B H R J b h l j s t

pub board : (H : RattleType) (h : _) (l : _) → IsSend (Board.the_row H h l)
board H h l = search (sendable, crosses, held_front, held_kept) depth 60 fits 100000

pub held_board : (H : RattleType) (h : _) (l : _) → IsSend (Board.the_field H h l).row
held_board H h l = board H h l

pub durable_hall : (B H R J : RattleType) (b : _) (h : _) (l : _) (j : _) → IsSend R → IsSync R → IsSend J → IsSync (DurableHall.the_row B H R J b h l j)
durable_hall B H R J b h l j s y t = search (sendable, crosses, held_draft, held_publisher, held_board) depth 60 fits 100000
