use Rattle.std.specs.Io.KnownBytes.{Keeps}
use Rattle.st_connection.proofs.streams.write_again.Given as goal

-- an interrupted write hands over nothing
abbrev pub invariant-loop : goal.invariant-loop
invariant-loop g l = Keeps (g.W.Write.contents l.initial.writer) (g.W.Write.contents l.writer)
