use Rattle.std.proofs.Common.{◌++◌, sym, subst}
use Rattle.st_index.specs.inner.Entries.{rows_of}
use Rattle.st_tally.specs.inner.Sums.{Sums}
use Rattle.st_ubtree.specs.inner.Nodes.{rows_under}
use Rattle.st_ubtree.proofs.Over.{is_page, page_rows_in, seen_rows}
use Rattle.st_ubtree.proofs.node.Node.add_to.Goals as goal

pub returns-in-Page : goal.returns-in-Page
returns-in-Page g c = λ rows sums.
    let same = page_rows_in (is_page c.self.inside c.in-Page.is c.self.invariant c.self.view_is) c.as_slice.ensures.value in
    subst (λ more. Sums c.add_page.new.self (rows ++ more)) (sym same) (c.add_page.ensures rows sums)

pub add_page-requires : goal.add_page-requires
add_page-requires g c =
    subst (λ es. Sums c.self.inside.sum (rows_of es)) (sym c.as_slice.ensures.value) (is_page c.self.inside c.in-Page.is c.self.invariant c.self.view_is).sums

pub returns-in-Inner : goal.returns-in-Inner
returns-in-Inner g c = λ rows sums.
    subst (λ more. Sums c.add_all.new.self (rows ++ more)) (sym (seen_rows c.self.inside c.self.view_is))
    (c.add_all.ensures rows (rows_under c.self.inside.kids) sums c.self.invariant.1)
