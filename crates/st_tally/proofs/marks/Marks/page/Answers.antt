use Rattle.std.proofs.Common.{arith}
use Rattle.st_tally.proofs.marks.Marks.page.Goals as goal

pub returns : goal.returns
returns g c = λ kids v kid marked.
    marked c.args.at c.index-marks.result.now v (omega (arith, c.if-at-len.false, c.len.ensures, c.args.self.now.pages.ok.0), c.index-marks.ensures) c.if-not-marks.false kid
