use Rattle.std.proofs.Common.{rules}
use Rattle.st_journal_copy.proofs.comparing.compare_some.Goals as goal

pub returns-clause-equal : goal.returns-clause-equal
returns-clause-equal g c = search rules

pub returns-clause-same : goal.returns-clause-same
returns-clause-same g c = search rules
