use Rattle.std.proofs.Common.{◌<◌, ◌≤◌, length, sym, subst, arith}
use Rattle.st_tally.specs.inner.Marks.{AreMarkedBy}
use Rattle.st_tally.proofs.Marking.{marked_close, marked_close_past}
use Rattle.st_tally.proofs.marks.Marks.close.Goals as goal

pub returns-then-at-len : goal.returns-then-at-len
returns-then-at-len g c = λ old new closes marked.
    let over : length c.args.self.now.pages.items ≤ c.args.at = omega (arith, c.if-at-len.true, c.len.ensures, c.args.self.now.pages.ok.0) in
    marked_close_past c.args.self.now.labels.items c.args.self.now.pages.items old new c.args.at over closes marked

pub returns : goal.returns
returns g c = λ old new closes marked.
    let fits : c.args.at < length c.args.self.now.pages.items = omega (arith, c.if-at-len.false, c.len.ensures, c.args.self.now.pages.ok.0) in
    let labels = c.args.self.now.labels.items in
    subst (λ ps. AreMarkedBy labels ps new) (sym c.remove-marks.ensures.items) (marked_close labels c.args.self.now.pages.items old new c.args.at fits closes marked)
