use Rattle.std.proofs.Common.{rules}
use Rattle.st_journal.proofs.record.Record.copy.Goals as goal

pub returns : goal.returns
returns c = search rules
