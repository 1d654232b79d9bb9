use Rattle.std.proofs.Common.{rules}
use Rattle.st_auth.proofs.auths.Auths.order.Goals as goal

pub returns : goal.returns
returns g c = search rules
