use Rattle.std.proofs.Common.{rules}
use Rattle.st_grant.proofs.system_permission.SystemPermission.named.Goals as goal

pub returns : goal.returns
returns c = search rules
