use Rattle.std.proofs.Common.{ap, ◌∙◌}
use Rattle.st_tally.specs.inner.Pages.{NodeValue, entries_of_pages}
use Rattle.st_tally.proofs.Placing.{same_at}
use Rattle.st_ubtree.proofs.Over.{is_page, page_entries_in, page_fits_in}
use Rattle.st_ubtree.proofs.node.Node.mark_in.Goals as goal

pub mark-requires : goal.mark-requires
mark-requires g c = page_fits_in (is_page c.self.inside c.in-Page.is c.self.invariant c.self.view_is) c.as_slice.ensures.value

pub returns-in-Page : goal.returns-in-Page
returns-in-Page g c = λ kids here marked.
    let entries = page_entries_in (is_page c.self.inside c.in-Page.is c.self.invariant c.self.view_is) c.as_slice.ensures.value in
    c.mark.ensures kids (λ v k. ap (λ (w : NodeValue g.row.A.Denot). entries_of_pages w.pages) (same_at kids c.args.at v c.args.self.now k here) ∙ entries) marked
