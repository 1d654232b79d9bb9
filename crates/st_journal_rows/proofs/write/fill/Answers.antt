use Rattle.std.proofs.Common.{rules}
use Rattle.st_journal_rows.proofs.write.fill.Goals as goal

pub returns : goal.returns
returns c = search rules
