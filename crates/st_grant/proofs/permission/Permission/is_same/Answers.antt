use Rattle.std.proofs.Common.{rules}
use Rattle.st_grant.proofs.permission.Permission.is_same.Goals as goal

pub returns : goal.returns
returns c = search rules
