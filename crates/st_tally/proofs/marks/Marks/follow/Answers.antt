use Rattle.std.proofs.Common.{◌<◌, ◌≤◌, length, refl, sym, subst, arith}
use Rattle.st_tally.specs.inner.Pages.{entries_of_pages}
use Rattle.st_tally.specs.inner.Marks.{AreMarkedBy, AreMarks}
use Rattle.st_tally.proofs.Marking.{marked_off, marked_set, marked_unknown}
use Rattle.st_tally.proofs.Placing.{set_read}
use Rattle.st_tally.proofs.marks.Marks.follow.Goals as goal

pub returns-then-at-len : goal.returns-then-at-len
returns-then-at-len g c = λ old new u here change same differ marked.
    let over : length c.args.self.now.pages.items ≤ c.args.at = omega (arith, c.if-at-len.true, c.len.ensures, c.args.self.now.pages.ok.0) in
    marked_off c.args.self.now.labels.items c.args.self.now.pages.items old new c.args.at over differ marked

pub returns : goal.returns
returns g c = λ old new u here change same differ marked.
    let low : c.args.at < length c.args.self.now.pages.items = omega (arith, c.if-at-len.false, c.len.ensures, c.args.self.now.pages.ok.0) in
    let before = marked c.args.at c.index_mut-page.result.now u (low, c.index_mut-page.ensures.value) c.if-not-page.false here in
    let labels = c.follow-page.new.labels.items in
    let now = record c.follow-page.new.page { known = c.follow-page.result } in
    marked_set c.args.self.now.labels.items labels c.args.self.now.pages.items old new c.args.at now c.follow-page.ensures.keeps low differ
    (λ v known h. subst (λ es. AreMarks labels es now) (sym (same v h)) (c.follow-page.ensures.marks (entries_of_pages u.pages) change before known)) marked

pub returns-then-not-page : goal.returns-then-not-page
returns-then-not-page g c = λ old new u here change same differ marked.
    let pages = c.args.self.now.pages.items in
    let page = c.index_mut-page.result.now in
    let low : c.args.at < length pages = omega (arith, c.if-at-len.false, c.len.ensures, c.args.self.now.pages.ok.0) in
    subst (λ ps. AreMarkedBy c.args.self.now.labels.items ps new) (sym (set_read pages c.args.at page page low c.index_mut-page.ensures.value refl))
    (marked_unknown c.args.self.now.labels.items pages old new c.args.at page c.index_mut-page.ensures.value c.if-not-page.true differ marked)
