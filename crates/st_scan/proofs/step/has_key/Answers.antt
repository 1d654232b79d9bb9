use Rattle.std.proofs.Common.{sym, ◌∙◌}
use Rattle.st_scan.proofs.step.has_key.Goals as goal
use Rattle.st_scan.proofs.step.has_key.Goals.{then-is_exact, else-is_exact}

pub returns-then-is_exact-2 : goal.returns-then-is_exact-2
returns-then-is_exact-2 g c = (
  λ there. elim c.if-is_exact.branch [
    | then-is_exact w ↦ c.requires.exact c.args.key (sym c.is_exact.ensures ∙ w.if-is_exact.true)
    | else-is_exact w ↦ w.is_exact-else-is_exact.ensures c.args.test.now.period c.args.test.now.query c.requires.own (sym w.value-is ∙ there)
  ],
  λ has. c.if-is_exact-2.true,
)
