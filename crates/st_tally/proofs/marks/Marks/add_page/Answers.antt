use Rattle.std.proofs.Common.{◌≤◌, sym, subst, arith, vec_capacity, vec_len}
use Rattle.st_tally.specs.inner.Marks.{AreMarkedBy}
use Rattle.st_tally.proofs.Marking.{marked_push}
use Rattle.st_tally.proofs.marks.Marks.add_page.Goals as goal

pub returns-clause-marked : goal.returns-clause-marked
returns-clause-marked g c = λ kids marked.
    let labels = c.args.self.now.labels.items in
    subst (λ ps. AreMarkedBy labels ps kids) (sym c.in-Ok.ensures.items)
    (marked_push labels c.args.self.now.pages.items kids c.none.result c.none.ensures marked)

pub unreachable-requires : goal.unreachable-requires
unreachable-requires g c =
    let full : vec_capacity c.args.self.now.pages ≤ vec_len c.args.self.now.pages = c.in_default.ensures.full in
    omega (arith, full, c.if-at-capacity.false, c.capacity.ensures, c.if-at-len.false, c.len.ensures)
