use Rattle.std.proofs.Common.{rules}
use Rattle.st_json.proofs.place.after.Goals as goal

pub returns-in-None : goal.returns-in-None
returns-in-None g c = search rules
