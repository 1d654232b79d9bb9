use Rattle.std.proofs.Common.{rules}
use Rattle.st_connection.proofs.server.Server.new.Goals as goal

pub invariant_of-result : goal.invariant_of-result
invariant_of-result g c = search rules
