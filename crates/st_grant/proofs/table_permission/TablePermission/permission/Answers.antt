use Rattle.std.proofs.Common.{rules}
use Rattle.st_grant.proofs.table_permission.TablePermission.permission.Goals as goal

pub returns-in-DropTable : goal.returns-in-DropTable
returns-in-DropTable c = search rules
