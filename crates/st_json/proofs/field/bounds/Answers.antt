use Rattle.std.proofs.Common.{rules}
use Rattle.st_json.proofs.field.bounds.Goals as goal

pub returns-in-Some : goal.returns-in-Some
returns-in-Some c = search rules
