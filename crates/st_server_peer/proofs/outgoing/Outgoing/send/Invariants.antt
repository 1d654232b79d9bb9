use Rattle.std.proofs.Common.{length, ◌-◌, ◌≤◌}
use Rattle.st_server_peer.proofs.outgoing.Outgoing.send.Given as goal

abbrev pub invariant-loop-taken : goal.invariant-loop-taken
invariant-loop-taken g l = l.taken ≤ length l.reply

abbrev pub decreases-loop-taken : goal.decreases-loop-taken
decreases-loop-taken g l = length l.reply - l.taken
