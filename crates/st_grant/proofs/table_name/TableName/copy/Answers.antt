use Rattle.std.proofs.Common.{rules}
use Rattle.st_grant.proofs.table_name.TableName.copy.Goals as goal

pub returns : goal.returns
returns c = search rules
