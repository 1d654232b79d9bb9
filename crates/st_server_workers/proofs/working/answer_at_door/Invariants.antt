use Rattle.st_server_peer.specs.Meeting.{Met}
use Rattle.st_server_workers.proofs.working.answer_at_door.Given as goal

abbrev pub invariant-loop : goal.invariant-loop
invariant-loop g l =
    (goal.iterator-loop g).can_next l.iterator' × (goal.iterator-loop g).is_finite l.iterator'
    × Met g.T.Attend.serves g.C.Client.call l.initial.attendant l.count l.attendant
