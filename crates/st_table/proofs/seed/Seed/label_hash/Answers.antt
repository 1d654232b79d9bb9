use Rattle.std.proofs.Common.{rules}
use Rattle.st_table.specs.inner.Places.{label_hash}
use Rattle.st_table.proofs.seed.Seed.label_hash.Goals as goal

pub returns-clause-value : goal.returns-clause-value
unfolding label_hash
returns-clause-value c = search rules
