use Rattle.std.proofs.Common.{rules}
use Rattle.st_table.specs.inner.Places.{sip}
use Rattle.st_table.proofs.seed.Seed.sip.Goals as goal

pub returns : goal.returns
unfolding sip
returns c = search rules
