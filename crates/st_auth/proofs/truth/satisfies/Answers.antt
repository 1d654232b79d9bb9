use Rattle.std.proofs.Common.{rules}
use Rattle.st_auth.proofs.truth.satisfies.Goals as goal

pub returns : goal.returns
returns g c = search rules
