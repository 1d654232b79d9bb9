use Rattle.std.proofs.Common.{rules}
use Rattle.st_connection.proofs.streams.FromWriteSink.write.Goals as goal

pub returns-else-n-eq0-clause-none_taken : goal.returns-else-n-eq0-clause-none_taken
returns-else-n-eq0-clause-none_taken g c = search rules
