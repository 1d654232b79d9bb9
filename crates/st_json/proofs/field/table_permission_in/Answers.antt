use Rattle.std.proofs.Common.{rules}
use Rattle.st_json.proofs.field.table_permission_in.Goals as goal

pub returns : goal.returns
returns c = search rules
