use Rattle.std.proofs.Common.{rules}
use Rattle.st_grant.proofs.table_name.TableName.namespace.Goals as goal

pub returns-in-Some : goal.returns-in-Some
returns-in-Some c = search rules
