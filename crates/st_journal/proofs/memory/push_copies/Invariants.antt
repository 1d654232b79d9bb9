use Rattle.std.proofs.Common.{◌≡◌, ◌++◌, take}
use Rattle.st_journal.proofs.memory.push_copies.Given as goal

abbrev pub invariant-loop-change : goal.invariant-loop-change
invariant-loop-change l = l.list.items ≡ l.fn.list.items ++ take l.change-index l.records
