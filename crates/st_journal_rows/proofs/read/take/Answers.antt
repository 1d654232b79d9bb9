use Rattle.std.proofs.Common.{rules}
use Rattle.st_journal_rows.proofs.read.take.Goals as goal

pub returns-in-Err-NoMemory : goal.returns-in-Err-NoMemory
returns-in-Err-NoMemory g c = search rules
