use Rattle.std.proofs.Common.{rules}
use Rattle.st_json.proofs.field.bytes_of.Goals as goal

pub returns : goal.returns
returns c = search rules
