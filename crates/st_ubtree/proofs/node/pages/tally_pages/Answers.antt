use Rattle.std.proofs.Common.{◌≡◌, ◌+◌, ◌<◌, List, ℕ, length, take, ap, subst, ◌∙◌, arith}
use Rattle.std.proofs.lemmas.List.Sums.{count_by-le-length}
use Rattle.std.specs.List.{flat_map, sum, sum_by}
use Rattle.st_index.specs.inner.Counting.{count_of, is_counted}
use Rattle.st_tally.specs.inner.Pages.{NodeValue, rows_of_pages}
use Rattle.st_tally.specs.inner.Marks.{MakeUp, tallied}
use Rattle.st_tally.proofs.Tallied.{counted_all, counted_fits, counted_next, most_fits, most_next, whole}
use Rattle.st_ubtree.specs.inner.Kids.{pages_of}
use Rattle.st_ubtree.proofs.Keeping.{rows_of_kids}
use Rattle.st_ubtree.proofs.node.pages.tally_pages.Given.{Over}
use Rattle.st_ubtree.proofs.node.pages.tally_pages.Goals.{After-tally_page-rest, After-loop-at}
use Rattle.st_ubtree.proofs.node.pages.tally_pages.Goals as goal

-- where nothing is tallied yet, the rows fit
fits : {A : Type 0} (kids : List (NodeValue A)) (tally : List ℕ) → length (rows_of_pages (pages_of kids)) < 18446744073709551616 → sum tally ≡ 0
    → sum tally + length (flat_map (λ (v : NodeValue A). rows_of_pages v.pages) kids) < 18446744073709551616
fits kids tally few none = let less = subst (λ rs. length rs < 18446744073709551616) (rows_of_kids kids) few in omega (arith, less, none)

-- what is counted with one child more
next : (g : Over) (c : After-tally_page-rest g) → MakeUp (g.J.Judge.judges c.args.judge.now) c.args.marks.now.labels.items (c.loop-at.rest + c.tally_page-rest.result)
    (sum_by (λ (v : NodeValue g.row.A.Denot). count_of c.args.query.now (g.J.Judge.judges c.args.judge.now) (rows_of_pages v.pages)) (take (c.loop-at.at + 1) c.args.kids.now))
    c.args.tally.now c.tally_page-rest.new.tally
next g c =
    let labels = c.args.marks.now.labels.items in
    let kid = c.index-kids-at.result in
    counted_next (λ (v : NodeValue g.row.A.Denot). rows_of_pages v.pages) c.args.kids.now c.loop-at.at c.args.query.now (g.J.Judge.judges c.args.judge.now) labels
    kid c.loop-at.rest c.tally_page-rest.result c.args.tally.now c.loop-at.tally c.tally_page-rest.new.tally c.loop-at-test.true c.index-kids-at.is
    c.loop-at.invariant.count
    (subst (λ j. MakeUp j labels c.tally_page-rest.result (count_of c.args.query.now j (rows_of_pages kid.pages)) c.loop-at.tally c.tally_page-rest.new.tally)
    c.loop-at.invariant.same c.tally_page-rest.ensures.count)

-- what was counted and what is found by the tally are all
all : (g : Over) (c : After-loop-at g) → c.loop-at.rest + tallied (g.J.Judge.judges c.loop-at.judge) c.args.marks.now.labels.items c.loop-at.tally
    ≡ count_of c.args.query.now (g.J.Judge.judges c.args.judge.now) (flat_map (λ (v : NodeValue g.row.A.Denot). rows_of_pages v.pages) c.args.kids.now)
all g c =
    let kids = c.args.kids.now in
    let q = c.args.query.now in
    let judges = g.J.Judge.judges c.args.judge.now in
    let labels = c.args.marks.now.labels.items in
    let made = counted_all (λ (v : NodeValue g.row.A.Denot). rows_of_pages v.pages) kids c.loop-at.at q judges labels c.loop-at.rest c.args.tally.now c.loop-at.tally
    (omega (arith, c.loop-at-test.false, c.loop-at.auto.at-end)) c.loop-at.invariant.count in
    whole judges (g.J.Judge.judges c.loop-at.judge) labels c.loop-at.rest (count_of q judges (flat_map (λ (v : NodeValue g.row.A.Denot). rows_of_pages v.pages) kids))
    c.args.tally.now c.loop-at.tally c.requires.none c.loop-at.invariant.same made

-- there are no more of them than rows
few : (g : Over) (c : After-loop-at g)
    → count_of c.args.query.now (g.J.Judge.judges c.args.judge.now) (flat_map (λ (v : NodeValue g.row.A.Denot). rows_of_pages v.pages) c.args.kids.now) < 18446744073709551616
few g c =
    let rows = flat_map (λ (v : NodeValue g.row.A.Denot). rows_of_pages v.pages) c.args.kids.now in
    let less = subst (λ rs. length rs < 18446744073709551616) (rows_of_kids c.args.kids.now) c.requires.fits in
    omega (arith, less, count_by-le-length (is_counted c.args.query.now (g.J.Judge.judges c.args.judge.now)) rows)

pub tally_page-rest-requires-clause-lowest : goal.tally_page-rest-requires-clause-lowest
tally_page-rest-requires-clause-lowest g c =
    ap (λ (v : NodeValue g.row.A.Denot). v.height) c.index-kids-at.is ∙ c.requires.lowest c.loop-at.at c.index-kids-at.result c.loop-at-test.true

pub tally_page-rest-requires-clause-marked : goal.tally_page-rest-requires-clause-marked
tally_page-rest-requires-clause-marked g c = (c.args.kids.now, c.requires.marked, (c.loop-at-test.true, c.index-kids-at.is))

pub tally_page-rest-requires-clause-fits : goal.tally_page-rest-requires-clause-fits
tally_page-rest-requires-clause-fits g c =
    most_fits (λ (v : NodeValue g.row.A.Denot). rows_of_pages v.pages) c.args.kids.now c.loop-at.at c.index-kids-at.result _ _ 18446744073709551616
    c.loop-at-test.true c.index-kids-at.is c.loop-at.invariant.most (fits c.args.kids.now c.args.tally.now c.requires.fits c.requires.none)

pub overflow_add-rest : goal.overflow_add-rest
overflow_add-rest g c =
    let few = counted_fits (λ (v : NodeValue g.row.A.Denot). rows_of_pages v.pages) c.args.kids.now (c.loop-at.at + 1) c.args.query.now
    (g.J.Judge.judges c.args.judge.now) c.args.marks.now.labels.items (c.loop-at.rest + c.tally_page-rest.result) 18446744073709551616
    c.args.tally.now c.tally_page-rest.new.tally (next g (goal.at.overflow_add-rest g c).After-tally_page-rest)
    (fits c.args.kids.now c.args.tally.now c.requires.fits c.requires.none) in
    omega (arith, few)

pub loop-at-preserved : goal.loop-at-preserved
loop-at-preserved g c = record {
  count = next g (goal.at.loop-at-preserved g c).After-tally_page-rest;
  most = most_next (λ (v : NodeValue g.row.A.Denot). rows_of_pages v.pages) c.args.kids.now c.loop-at.at c.index-kids-at.result _ _ _ c.loop-at-test.true
      c.index-kids-at.is c.loop-at.invariant.most c.tally_page-rest.ensures.most;
  same = c.tally_page-rest.ensures.same ∙ c.loop-at.invariant.same;
}

pub total-requires : goal.total-requires
total-requires g c =
    let after = (goal.at.total-requires g c).After-loop-at in
    omega (arith, all g after, few g after)

pub overflow_add-result : goal.overflow_add-result
overflow_add-result g c =
    let after = (goal.at.overflow_add-result g c).After-loop-at in
    omega (arith, all g after, few g after, c.total.ensures.total)

pub returns-clause-count : goal.returns-clause-count
returns-clause-count g c =
    let same = ap (count_of c.args.query.now (g.J.Judge.judges c.args.judge.now)) (rows_of_kids c.args.kids.now) in
    omega (arith, all g (goal.at.returns-clause-count g c).After-loop-at, c.total.ensures.total, same)
