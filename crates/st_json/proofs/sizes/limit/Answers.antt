use Rattle.std.proofs.Common.{rules}
use Rattle.st_json.proofs.sizes.limit.Goals as goal

pub returns : goal.returns
returns c = search rules
