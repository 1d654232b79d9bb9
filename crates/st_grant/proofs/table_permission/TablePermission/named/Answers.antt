use Rattle.std.proofs.Common.{rules}
use Rattle.st_grant.proofs.table_permission.TablePermission.named.Goals as goal

pub returns : goal.returns
returns c = search rules
