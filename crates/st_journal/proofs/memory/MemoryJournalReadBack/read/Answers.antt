use Rattle.std.proofs.Common.{rules}
use Rattle.st_journal.proofs.memory.MemoryJournalReadBack.read.Goals as goal

pub returns-in-Err-clause-lost : goal.returns-in-Err-clause-lost
returns-in-Err-clause-lost c = search rules
