use Rattle.std.proofs.Common.{◌≡◌, IfOk, subst}
use Rattle.st_index.specs.inner.Changes.{IsChange}
use Rattle.st_tally.specs.inner.Pages.{entries_of_pages}
use Rattle.st_ubtree.proofs.node.marking.mark_swapped.Goals as goal

pub returns-in-Ok : goal.returns-in-Ok
returns-in-Ok g c = λ old u v here there differ change marked.
    c.mark_changed.ensures old u v here there differ
    (subst (λ o. IfOk o (λ _. v.height ≡ 0 → IsChange c.args.change (entries_of_pages u.pages) (entries_of_pages v.pages))) c.in-Ok.is change) marked

pub returns-in-Err : goal.returns-in-Err
returns-in-Err g c = λ old u v here there differ change marked. c.clear_page.ensures old c.args.kids.now.items differ marked
