use Rattle.std.proofs.Common.{sym, subst, ◌∙◌}
use Rattle.st_scan.specs.inner.Steps.{IsOwnExact}
use Rattle.st_scan.proofs.own_plan.OwnPlan.is_exact.Goals as goal

pub returns-in-Made : goal.returns-in-Made
returns-in-Made g c = λ period query held has. (subst (IsOwnExact period query) c.in-Made.is held) c.args.key (sym c.is_exact.ensures ∙ has)
