use Rattle.std.proofs.Common.{arith}
use Rattle.std.proofs.lemmas.Grind.{common_steps}
use Rattle.st_json_reply.proofs.ranges.RangeWriteJson.write_json.Goals as goal

pub returns : goal.returns
returns g c = grind (arith, common_steps)
