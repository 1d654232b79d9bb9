use Rattle.st_server_peer.specs.Meeting.{Met}
use Rattle.st_server_workers.proofs.working.answer_queued.Given as goal

abbrev pub invariant-loop-client : goal.invariant-loop-client
invariant-loop-client g l = Met g.T.Attend.serves g.C.Client.call l.initial.attendant l.count l.attendant
