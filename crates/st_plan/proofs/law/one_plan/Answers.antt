use Rattle.st_plan.proofs.Whole.{computed}
use Rattle.st_plan.proofs.law.one_plan.Goals as goal

pub returns : goal.returns
returns g c = λ period query budget plan some. computed _ period query budget plan some
