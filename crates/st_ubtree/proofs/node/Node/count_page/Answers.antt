use Rattle.std.proofs.Common.{◌≡◌, ◌+◌, replicate, arith}
use Rattle.std.proofs.lemmas.List.Sums.{count_by-le-length}
use Rattle.st_index.specs.inner.Counting.{count_of, is_counted}
use Rattle.st_tally.specs.inner.Marks.{tallied}
use Rattle.st_tally.specs.inner.Pages.{rows_of_pages}
use Rattle.st_tally.proofs.Tallied.{no_sum, whole}
use Rattle.st_ubtree.proofs.node.Node.count_page.Given.{Over}
use Rattle.st_ubtree.proofs.node.Node.count_page.Goals.{After-tally_page-rest}
use Rattle.st_ubtree.proofs.node.Node.count_page.Goals as goal

-- what was counted and what is found by the tally are all
all : (g : Over) (c : After-tally_page-rest g)
    → c.tally_page-rest.result + tallied (g.J.Judge.judges c.tally_page-rest.new.judge) c.args.verdicts.now.marks.now.labels.items c.tally_page-rest.new.tally
    ≡ count_of c.args.query.now (g.J.Judge.judges c.args.judge.now) (rows_of_pages c.args.self.now.pages)
all g c =
    let judges = g.J.Judge.judges c.args.judge.now in
    whole judges (g.J.Judge.judges c.tally_page-rest.new.judge) c.args.verdicts.now.marks.now.labels.items c.tally_page-rest.result
    (count_of c.args.query.now judges (rows_of_pages c.args.self.now.pages)) (replicate 20 0) c.tally_page-rest.new.tally (no_sum 20)
    c.tally_page-rest.ensures.same c.tally_page-rest.ensures.count

pub total-requires-clause-fits : goal.total-requires-clause-fits
total-requires-clause-fits g c =
    let few = count_by-le-length (is_counted c.args.query.now (g.J.Judge.judges c.args.judge.now)) (rows_of_pages c.args.self.now.pages) in
    omega (arith, all g (goal.at.total-requires-clause-fits g c).After-tally_page-rest, few, c.requires.fits)

pub overflow_add-result : goal.overflow_add-result
overflow_add-result g c =
    let most = count_by-le-length (is_counted c.args.query.now (g.J.Judge.judges c.args.judge.now)) (rows_of_pages c.args.self.now.pages) in
    omega (arith, all g (goal.at.overflow_add-result g c).After-tally_page-rest, c.total.ensures.total, most, c.requires.fits)

pub returns-clause-count : goal.returns-clause-count
returns-clause-count g c = omega (arith, all g (goal.at.returns-clause-count g c).After-tally_page-rest, c.total.ensures.total)
