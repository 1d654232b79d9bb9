use Rattle.std.proofs.Common.{rules}
use Rattle.st_policy.proofs.entry.Entry.copy.Goals as goal

pub returns : goal.returns
returns c = search rules
