use Rattle.std.proofs.Common.{rules, sym}
use Rattle.st_core.proofs.Steps.{is_refused}
use Rattle.st_core.proofs.judged.refusal.Goals as goal

pub returns-in-Err : goal.returns-in-Err
returns-in-Err g c = sym (is_refused _ c.in-Err.refusal (search rules))
