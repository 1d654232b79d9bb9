use Rattle.std.specs.Io.KnownBytes.{Keeps}
use Rattle.st_connection.proofs.streams.read_again.Given as goal

-- an interrupted read takes nothing
abbrev pub invariant-loop : goal.invariant-loop
invariant-loop g l = Keeps (g.R.Read.remaining l.initial.reader) (g.R.Read.remaining l.reader)
