use Rattle.std.proofs.Common.{rules}
use Rattle.st_table.specs.inner.Places.{hash_of}
use Rattle.st_table.proofs.seed.Seed.hash.Goals as goal

pub returns-clause-value : goal.returns-clause-value
unfolding hash_of
returns-clause-value c = search rules
