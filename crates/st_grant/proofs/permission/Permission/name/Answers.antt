use Rattle.std.proofs.Common.{rules}
use Rattle.st_grant.proofs.permission.Permission.name.Goals as goal

pub returns-in-DropUser : goal.returns-in-DropUser
returns-in-DropUser c = search rules
