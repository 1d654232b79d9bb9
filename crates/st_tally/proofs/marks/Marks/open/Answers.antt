use Rattle.std.proofs.Common.{◌<◌, ◌≤◌, length, sym, subst, arith, vec_capacity, vec_len}
use Rattle.st_tally.specs.inner.Marks.{AreMarkedBy}
use Rattle.st_tally.proofs.Marking.{marked_open, marked_open_past}
use Rattle.st_tally.proofs.marks.Marks.open.Goals as goal

pub returns-then-at-len : goal.returns-then-at-len
returns-then-at-len g c = λ old new opens marked.
    let over : length c.args.self.now.pages.items < c.args.at = omega (arith, c.if-at-len.true, c.len.ensures, c.args.self.now.pages.ok.0) in
    marked_open_past c.args.self.now.labels.items c.args.self.now.pages.items old new c.args.at over opens marked

pub returns : goal.returns
returns g c = λ old new opens marked.
    let fits : c.args.at ≤ length c.args.self.now.pages.items = omega (arith, c.if-at-len.false, c.len.ensures, c.args.self.now.pages.ok.0) in
    let labels = c.args.self.now.labels.items in
    subst (λ ps. AreMarkedBy labels ps new) (sym c.in-Ok.ensures.items)
    (marked_open labels c.args.self.now.pages.items old new c.args.at c.beside-marks.result fits c.beside-marks.ensures opens marked)

pub unreachable-requires : goal.unreachable-requires
unreachable-requires g c =
    let full : vec_capacity c.args.self.now.pages ≤ vec_len c.args.self.now.pages = c.in_default.ensures.full in
    omega (arith, full, c.if-len-capacity.false, c.len-2.ensures, c.capacity.ensures)

pub returns-then-len-capacity : goal.returns-then-len-capacity
returns-then-len-capacity g c = λ old new opens marked. c.clear.ensures new
