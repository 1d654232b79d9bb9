use Rattle.std.proofs.Common.{rules}
use Rattle.st_json.proofs.body.read.Goals as goal

pub returns-then-has_body : goal.returns-then-has_body
returns-then-has_body c = search rules
