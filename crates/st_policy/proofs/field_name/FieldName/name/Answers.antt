use Rattle.std.proofs.Common.{rules}
use Rattle.st_policy.proofs.field_name.FieldName.name.Goals as goal

pub returns-in-Note : goal.returns-in-Note
returns-in-Note c = search rules
