use Rattle.std.proofs.Common.{IsTrue}
use Rattle.std.specs.List.{list_any}
use Rattle.st_key.specs.declared.key.Key.{Key}
use Rattle.st_plan.specs.QueryPlan.{is_exact}
use Rattle.st_scan.specs.inner.Steps.{has_exact}
use Rattle.st_scan.proofs.exact.ranges_of.Given as goal

abbrev pub invariant-loop-part : goal.invariant-loop-part
invariant-loop-part g l = (k : Key) → IsTrue (list_any (has_exact k) l.parts.items) → IsTrue (is_exact l.plan k)
