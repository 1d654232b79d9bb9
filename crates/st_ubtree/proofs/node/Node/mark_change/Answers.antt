use Rattle.std.proofs.Common.{subst, ap, ◌∙◌}
use Rattle.st_index.specs.inner.Changes.{IsChange}
use Rattle.st_tally.specs.inner.Pages.{NodeValue, entries_of_pages}
use Rattle.st_tally.proofs.Placing.{same_at}
use Rattle.st_ubtree.proofs.Over.{is_page, page_entries_in, page_fits_in, page_low}
use Rattle.st_ubtree.proofs.node.Node.mark_change.Goals as goal

pub follow-requires : goal.follow-requires
follow-requires g c = page_fits_in (is_page c.self.inside c.in-Page.is c.self.invariant c.self.view_is) c.as_slice.ensures.value

pub returns-in-Page : goal.returns-in-Page
returns-in-Page g c = λ old new u here there differ change marked.
    let p = is_page c.self.inside c.in-Page.is c.self.invariant c.self.view_is in
    let entries = page_entries_in p c.as_slice.ensures.value in
    c.follow.ensures old new u here (subst (IsChange c.args.change (entries_of_pages u.pages)) entries (change (page_low p)))
    (λ v k. ap (λ (w : NodeValue g.row.A.Denot). entries_of_pages w.pages) (same_at new c.args.at v c.args.self.now k there) ∙ entries) differ marked

pub returns-in-Inner : goal.returns-in-Inner
returns-in-Inner g c = λ old new u here there differ change marked. c.clear_page.ensures old new differ marked
