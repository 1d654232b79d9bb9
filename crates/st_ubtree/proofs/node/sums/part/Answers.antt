use Rattle.std.proofs.Common.{[]}
use Rattle.st_tally.specs.inner.Pages.{rows_of_pages}
use Rattle.st_ubtree.specs.inner.Kids.{pages_of}
use Rattle.st_ubtree.proofs.node.sums.part.Goals as goal

pub returns-clause-kids : goal.returns-clause-kids
returns-clause-kids g c = c.add_kids-2.ensures [] c.clear-2.ensures

pub returns-clause-later : goal.returns-clause-later
returns-clause-later g c = c.add_kids.ensures [] c.clear.ensures

pub returns-then-counts_labels-clause-kids : goal.returns-then-counts_labels-clause-kids
returns-then-counts_labels-clause-kids g c =
    let rows = rows_of_pages (pages_of c.args.kids.now) in
    let more = rows_of_pages (pages_of c.args.later.now) in
    c.set_bounds.ensures rows (c.take_all.ensures rows more c.requires (c.add_kids.ensures [] c.clear.ensures)) c.bounds_of.ensures

pub returns-then-counts_labels-clause-later : goal.returns-then-counts_labels-clause-later
returns-then-counts_labels-clause-later g c = c.add_kids.ensures [] c.clear.ensures
