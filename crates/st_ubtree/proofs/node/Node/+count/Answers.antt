use Rattle.std.proofs.Common.{◌≡◌, ◌+◌, ◌<◌, ℕ, length, refl, sym, ap, subst, take, ◌∙◌, arith, rules}
use Rattle.std.specs.List.{sum_by}
use Rattle.std.proofs.lemmas.List.Sums.{count_by-le-length, sum_by-take-le}
use Rattle.st_index.specs.inner.Counting.{count_of, is_counted}
use Rattle.st_index.specs.inner.Entries.{rows_of}
use Rattle.st_index.proofs.Sums.{sum_all, sum_one_more}
use Rattle.st_tally.specs.inner.Pages.{NodeValue, rows_of_pages}
use Rattle.st_tally.specs.inner.Marks.{AreMarked}
use Rattle.st_ubtree.specs.inner.Kids.{pages_of}
use Rattle.st_ubtree.specs.inner.Nodes.{rows_under}
use Rattle.st_ubtree.proofs.Keeping.{count_of_kids, fewer_in_kid}
use Rattle.st_ubtree.proofs.Over.{IsOver, IsPage, each_in, is_over, is_page, item_lower, page_rows_in, rows_in, seen_rows}
use Rattle.st_ubtree.proofs.node.Node.+count.Given.{Over}
use Rattle.st_ubtree.proofs.node.Node.+count.Goals.{In-Page, In-Inner, After-count-sum}
use Rattle.st_ubtree.proofs.node.Node.+count.Goals as goal

one_page : (g : Over) (t : ℕ) (c : In-Page g t) → IsPage c.self.inside c.in-Page.entries c.args.self.now
one_page g t c = is_page c.self.inside c.in-Page.is c.self.invariant c.self.view_is

over : (g : Over) (t : ℕ) (c : In-Inner g t) → IsOver c.self.inside c.in-Inner.kids c.in-Inner.aside.value c.args.self.now
over g t c = is_over c.self.inside c.in-Inner.is refl c.self.invariant c.self.view_is

-- what is counted with one child more
next : (g : Over) (t : ℕ) (c : After-count-sum g t) → c.loop-kid.sum + c.count-sum.result
    ≡ sum_by (λ (v : NodeValue g.row.A.Denot). count_of c.args.query.now (g.J.Judge.judges c.count_inside.new.judge) (rows_of_pages v.pages))
    (take (c.loop-kid.kid-index + 1) c.as_slice-kid-items.result.now)
next g t c =
    let f = λ (v : NodeValue g.row.A.Denot). count_of c.args.query.now (g.J.Judge.judges c.count_inside.new.judge) (rows_of_pages v.pages) in
    let kid = c.kid-item.result in
    let below : c.loop-kid.kid-index < length c.as_slice-kid-items.result.now = omega arith in
    let here : c.count-sum.result ≡ f kid = c.count-sum.ensures.count ∙ ap (λ j. count_of c.args.query.now j (rows_of_pages kid.pages)) c.loop-kid.invariant.same in
    omega (arith, here, sum_one_more f c.as_slice-kid-items.result.now c.loop-kid.kid-index kid below c.kid-item.is, c.loop-kid.invariant.sum)

pub returns-then-not-meets-clause-count : goal.returns-then-not-meets-clause-count
returns-then-not-meets-clause-count g t c =
    let judges = g.J.Judge.judges c.args.judge.now in
    sym (ap (count_of c.args.query.now judges) (seen_rows c.self.inside c.self.view_is)
    ∙ c.meets.ensures (rows_under c.self.inside.kids) judges c.self.invariant.1 c.if-not-meets.true)

pub count_inside-requires : goal.count_inside-requires
count_inside-requires g t c =
    (rows_under c.self.inside.kids, c.self.invariant.1, subst (λ xs. length xs < 18446744073709551616) (seen_rows c.self.inside c.self.view_is) c.requires)

pub returns-in-Some-clause-count : goal.returns-in-Some-clause-count
returns-in-Some-clause-count g t c =
    c.in-Some.ensures.some (rows_under c.self.inside.kids) c.self.invariant.1
    ∙ sym (ap (count_of c.args.query.now (g.J.Judge.judges c.args.judge.now)) (seen_rows c.self.inside c.self.view_is))

pub count-requires : goal.count-requires
count-requires g t c =
    subst (λ xs. length xs < 18446744073709551616) (page_rows_in (one_page g t (goal.at.count-requires g t c).In-Page) c.as_slice.ensures.value) c.requires

pub returns-in-Page-clause-count : goal.returns-in-Page-clause-count
returns-in-Page-clause-count g t c =
    c.count.ensures.count
    ∙ ap (λ j. count_of c.args.query.now j (rows_of c.as_slice.result.now)) c.count_inside.ensures.same
    ∙ ap (count_of c.args.query.now (g.J.Judge.judges c.args.judge.now))
    (sym (page_rows_in (one_page g t (goal.at.returns-in-Page-clause-count g t c).In-Page) c.as_slice.ensures.value))

pub count-sum-requires : goal.count-sum-requires
count-sum-requires g t c κs within =
    let o = over g t (goal.at.count-sum-requires g t c).In-Inner in
    let i = c.loop-kid.kid-index in
    let kid = c.kid-item.result in
    let below : i < length c.as_slice-kid-items.result.now = omega arith in
    let lower = item_lower o c.as_slice-kid-items.ensures.value i kid below c.kid-item.is in
    let few : length (rows_of_pages kid.pages) < 18446744073709551616 =
    omega (arith, fewer_in_kid c.as_slice-kid-items.result.now i kid below c.kid-item.is, ap length (rows_in o c.as_slice-kid-items.ensures.value), c.requires) in
    (search (rules, lower), (within.0, (within.1, few)))

pub overflow_add-sum : goal.overflow_add-sum
overflow_add-sum g t c =
    let q = c.args.query.now in
    let xs = c.as_slice-kid-items.result.now in
    let judges = g.J.Judge.judges c.count_inside.new.judge in
    let most = sum_by-take-le (λ (v : NodeValue g.row.A.Denot). count_of q judges (rows_of_pages v.pages)) xs (c.loop-kid.kid-index + 1) in
    let fits = count_by-le-length (is_counted q judges) (rows_of_pages (pages_of xs)) in
    let rows = ap length (rows_in (over g t (goal.at.overflow_add-sum g t c).In-Inner) c.as_slice-kid-items.ensures.value) in
    omega (arith, next g t (goal.at.overflow_add-sum g t c).After-count-sum, most, count_of_kids q judges xs, fits, rows, c.requires)

pub loop-kid-preserved : goal.loop-kid-preserved
loop-kid-preserved g t c = record {
  sum = next g t (goal.at.loop-kid-preserved g t c).After-count-sum;
  same = c.count-sum.ensures.same ∙ c.loop-kid.invariant.same;
}

pub returns-after-loop-kid-clause-count : goal.returns-after-loop-kid-clause-count
returns-after-loop-kid-clause-count g t c =
    let xs = c.as_slice-kid-items.result.now in
    let judges = g.J.Judge.judges c.count_inside.new.judge in
    let rows = rows_in (over g t (goal.at.returns-after-loop-kid-clause-count g t c).In-Inner) c.as_slice-kid-items.ensures.value in
    c.loop-kid.invariant.sum
    ∙ sum_all (λ (v : NodeValue g.row.A.Denot). count_of c.args.query.now judges (rows_of_pages v.pages)) xs c.loop-kid.kid-index c.loop-kid-test.false
    ∙ sym (count_of_kids c.args.query.now judges xs)
    ∙ ap (λ j. count_of c.args.query.now j (rows_of_pages (pages_of xs))) c.count_inside.ensures.same
    ∙ sym (ap (count_of c.args.query.now (g.J.Judge.judges c.args.judge.now)) rows)

pub returns-after-loop-kid-clause-same : goal.returns-after-loop-kid-clause-same
returns-after-loop-kid-clause-same g t c = c.loop-kid.invariant.same ∙ c.count_inside.ensures.same

pub count_pages-requires-clause-lowest : goal.count_pages-requires-clause-lowest
count_pages-requires-clause-lowest g t c =
    let o = over g t (goal.at.count_pages-requires-clause-lowest g t c).In-Inner in
    let low : o.good.below ≡ 0 = omega (arith, c.if-self-eq1.true, o.good.higher) in
    λ k d l. (each_in o c.as_slice-then-self-eq1.ensures.value k d l).same_height ∙ low

pub count_pages-requires-clause-fits : goal.count_pages-requires-clause-fits
count_pages-requires-clause-fits g t c =
    let rows = rows_in (over g t (goal.at.count_pages-requires-clause-fits g t c).In-Inner) c.as_slice-then-self-eq1.ensures.value in
    subst (λ rs. length rs < 18446744073709551616) rows c.requires

pub count_pages-requires-clause-marked : goal.count_pages-requires-clause-marked
count_pages-requires-clause-marked g t c =
    subst (AreMarked c.deref.result.now.marks) (sym c.as_slice-then-self-eq1.ensures.value)
    (is_over c.self.inside c.in-Inner.is c.deref.ensures c.self.invariant c.self.view_is).marked

pub returns-then-self-eq1-clause-count : goal.returns-then-self-eq1-clause-count
returns-then-self-eq1-clause-count g t c =
    let rows = rows_in (over g t (goal.at.returns-then-self-eq1-clause-count g t c).In-Inner) c.as_slice-then-self-eq1.ensures.value in
    c.count_pages.ensures.count
    ∙ ap (λ j. count_of c.args.query.now j (rows_of_pages (pages_of c.as_slice-then-self-eq1.result.now))) c.count_inside.ensures.same
    ∙ sym (ap (count_of c.args.query.now (g.J.Judge.judges c.args.judge.now)) rows)

pub returns-then-self-eq1-clause-same : goal.returns-then-self-eq1-clause-same
returns-then-self-eq1-clause-same g t c = c.count_pages.ensures.same ∙ c.count_inside.ensures.same
