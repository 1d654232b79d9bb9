use Rattle.std.proofs.Common.{◌≡◌, ◌<◌, length, sym, ap, subst, ◌∙◌, arith}
use Rattle.st_index.specs.inner.Changes.{IsChange}
use Rattle.st_tally.specs.inner.Pages.{NodeValue, entries_of_pages}
use Rattle.st_tally.specs.inner.Marks.{AreMarked, DifferAt, HasAt}
use Rattle.st_tally.proofs.Placing.{same_at}
use Rattle.st_ubtree.proofs.node.marking.mark_changed.Goals as goal

pub returns : goal.returns
returns g c = λ old u v here there differ change marked.
    let kids = c.as_slice-kids.result.now in
    let at = c.args.at in
    let same : c.args.kids.now.items ≡ kids = sym c.as_slice-kids.ensures.value in
    let low : at < length kids = omega (arith, c.if-at-kids.false) in
    let kid = c.index-kids-at.result in
    let is : v ≡ kid = same_at kids at v kid (subst (λ ks. HasAt ks at v) same there) (low, c.index-kids-at.is) in
    let followed = c.mark_change.ensures old kids u here (low, c.index-kids-at.is) (subst (DifferAt at old) same differ)
    (λ none. subst (λ (w : NodeValue g.row.A.Denot). IsChange c.args.change (entries_of_pages u.pages) (entries_of_pages w.pages)) is
    (change (ap (λ (w : NodeValue g.row.A.Denot). w.height) is ∙ none))) marked in
    subst (AreMarked c.mark_change.new.marks) c.as_slice-kids.ensures.value followed

pub returns-then-at-kids : goal.returns-then-at-kids
returns-then-at-kids g c = λ old u v here there differ change marked.
    let kids = c.as_slice-kids.result.now in
    let low = (subst (λ ks. HasAt ks c.args.at v) (sym c.as_slice-kids.ensures.value) there).0 in
    absurd (omega (arith, low, c.if-at-kids.true))
