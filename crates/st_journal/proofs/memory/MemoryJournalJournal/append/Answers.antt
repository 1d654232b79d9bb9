use Rattle.std.proofs.Common.{rules, arith}
use Rattle.std.proofs.lemmas.Grind.{common_steps}
use Rattle.st_journal.proofs.memory.MemoryJournalJournal.append.Goals as goal

pub returns-in-Err-clause-not_kept : goal.returns-in-Err-clause-not_kept
returns-in-Err-clause-not_kept c = grind (arith, common_steps)

pub returns-in-Err-clause-refused : goal.returns-in-Err-clause-refused
returns-in-Err-clause-refused c = search rules

pub returns-in-Err-clause-unknown : goal.returns-in-Err-clause-unknown
returns-in-Err-clause-unknown c = search rules
