use Rattle.std.proofs.Common.{rules}
use Rattle.st_journal_rows.proofs.object.is_table.Goals as goal

pub returns-then-eq-clause-no : goal.returns-then-eq-clause-no
returns-then-eq-clause-no c = search rules

pub returns-then-eq-clause-yes : goal.returns-then-eq-clause-yes
returns-then-eq-clause-yes c = search rules
