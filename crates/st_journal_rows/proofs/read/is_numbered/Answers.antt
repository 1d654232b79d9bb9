use Rattle.std.proofs.Common.{rules}
use Rattle.st_journal_rows.proofs.read.is_numbered.Goals as goal

pub returns-clause-number : goal.returns-clause-number
returns-clause-number c = search rules
