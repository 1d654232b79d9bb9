use Rattle.std.proofs.Common.{rules}
use Rattle.st_json.proofs.field.new_period_in.Goals as goal

pub returns-in-None : goal.returns-in-None
returns-in-None c = search rules
