use Rattle.std.proofs.Common.{[], sym, subst}
use Rattle.st_index.specs.inner.Entries.{rows_of}
use Rattle.st_tally.specs.inner.Pages.{rows_of_pages}
use Rattle.st_ubtree.specs.inner.Kids.{pages_of}
use Rattle.st_ubtree.specs.inner.Nodes.{rows_under}
use Rattle.st_tally.specs.inner.Sums.{Sums}
use Rattle.st_ubtree.proofs.node.sums.renew.Goals as goal

pub returns-in-Page : goal.returns-in-Page
returns-in-Page g c =
    subst (λ k. Sums c.add_entries.new.self (rows_under k)) (sym c.in-Page.is)
    (subst (λ es. Sums c.add_entries.new.self (rows_of es)) c.as_slice.ensures.value (c.add_entries.ensures [] c.clear.ensures))

pub returns-in-Inner : goal.returns-in-Inner
returns-in-Inner g c =
    subst (λ k. Sums c.add_kids.new.sum (rows_under k)) (sym c.in-Inner.is)
    (subst (λ ks. Sums c.add_kids.new.sum (rows_of_pages (pages_of ks))) c.as_slice-in-Inner.ensures.value (c.add_kids.ensures [] c.clear.ensures))
