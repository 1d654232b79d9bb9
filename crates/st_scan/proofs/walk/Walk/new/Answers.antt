use Rattle.std.proofs.Common.{◌∙◌}
use Rattle.st_scan.proofs.Steps.{from_first}
use Rattle.st_scan.proofs.walk.Walk.new.Goals as goal

pub returns-clause-left : goal.returns-clause-left
returns-clause-left g c = c.begin.ensures.left ∙ from_first (g.I.RowIndex.period_of c.args.index.now) c.args.query.now (g.I.RowIndex.content c.args.index.now)

pub begin-requires-clause-exact : goal.begin-requires-clause-exact
begin-requires-clause-exact g c = λ k held. c.requires.exact k (c.ranges_of.ensures k held)
