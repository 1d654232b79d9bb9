use Rattle.std.proofs.Common.{◌<◌, length, refl, sym, subst, arith}
use Rattle.st_tally.specs.inner.Marks.{AreMarkedBy, AreMarks}
use Rattle.st_tally.proofs.Marking.{marked_set}
use Rattle.st_tally.proofs.Placing.{set_read}
use Rattle.st_tally.proofs.marks.Marks.mark.Goals as goal

pub returns : goal.returns
returns g c = λ kids here marked.
    let pages = c.add_page.new.self.pages.items in
    let low : c.args.at < length pages = omega (arith, c.if-at-len.false, c.len.ensures, c.add_page.new.self.pages.ok.0) in
    let labels = c.mark_page.new.labels.items in
    let page = c.mark_page.new.page in
    marked_set c.add_page.new.self.labels.items labels pages kids kids c.args.at page c.mark_page.ensures.keeps low (λ i w ne k. k)
    (λ v known k. subst (λ es. AreMarks labels es page) (sym (here v k)) c.mark_page.ensures.marks) (c.add_page.ensures.marked kids marked)

pub returns-then-page : goal.returns-then-page
returns-then-page g c = λ kids here marked.
    let pages = c.add_page.new.self.pages.items in
    let page = c.index_mut-page.result.now in
    let low : c.args.at < length pages = omega (arith, c.if-at-len.false, c.len.ensures, c.add_page.new.self.pages.ok.0) in
    subst (λ ps. AreMarkedBy c.add_page.new.self.labels.items ps kids) (sym (set_read pages c.args.at page page low c.index_mut-page.ensures.value refl))
    (c.add_page.ensures.marked kids marked)

pub returns-then-at-len : goal.returns-then-at-len
returns-then-at-len g c = λ kids here marked. c.add_page.ensures.marked kids marked
