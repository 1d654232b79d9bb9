use Rattle.std.proofs.Common.{arith}
use Rattle.std.proofs.lemmas.Grind.{common_steps}
use Rattle.st_http.proofs.message.item.Goals as goal

pub returns : goal.returns
returns c = grind (arith, common_steps)

pub returns-then-after-length : goal.returns-then-after-length
returns-then-after-length c = grind (arith, common_steps)
