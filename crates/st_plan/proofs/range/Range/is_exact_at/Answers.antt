use Rattle.std.proofs.Common.{rules}
use Rattle.st_plan.proofs.range.Range.is_exact_at.Goals as goal

pub returns-then-self-address : goal.returns-then-self-address
returns-then-self-address c = search rules
