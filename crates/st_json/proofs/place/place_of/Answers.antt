use Rattle.std.proofs.Common.{rules}
use Rattle.st_json.proofs.place.place_of.Goals as goal

pub returns : goal.returns
returns g c = search rules
