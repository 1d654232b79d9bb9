use Rattle.std.proofs.Common.{rules}
use Rattle.st_core.proofs.judged.judge.Goals as goal

pub returns-in-Bad : goal.returns-in-Bad
returns-in-Bad g c = search rules
