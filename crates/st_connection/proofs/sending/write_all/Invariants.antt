use Rattle.std.proofs.Common.{◌≡◌, ◌+◌, ◌-◌, ◌≤◌, length, take}
use Rattle.std.specs.Io.KnownBytes.{Appends}
use Rattle.st_connection.proofs.sending.write_all.Given as goal

abbrev pub invariant-loop-done : goal.invariant-loop-done
invariant-loop-done g l = record {
  within : l.done ≤ length l.bytes;
  wrote : Appends (g.W.Sink.held l.initial.writer) (g.W.Sink.held l.writer) (take l.done l.bytes);
  counted : l.written ≡ l.initial.written + l.done;
  sound : g.W.Sink.has_failed l.writer ≡ g.W.Sink.has_failed l.initial.writer;
}

abbrev pub decreases-loop-done : goal.decreases-loop-done
decreases-loop-done g l = length l.bytes - l.done
