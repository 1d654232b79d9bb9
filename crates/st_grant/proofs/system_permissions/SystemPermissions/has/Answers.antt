use Rattle.std.proofs.Common.{rules}
use Rattle.st_grant.proofs.system_permissions.SystemPermissions.has.Goals as goal

pub returns : goal.returns
returns c = search rules
