use Rattle.std.proofs.Common.{◌≡◌, ◌+◌, ◌<◌, [], ◌∷◌, length, cond, ap, ◌∙◌, arith}
use Rattle.std.proofs.lemmas.List.Sums.{count_by-le-length, sum_by-take-le}
use Rattle.st_index.specs.declared.row.Row.{Row}
use Rattle.st_index.specs.RowViews.{row_of_view}
use Rattle.st_index.specs.inner.Counting.{count_of, is_counted}
use Rattle.st_index.proofs.Sums.{sum_all, sum_one_more}
use Rattle.st_index.proofs.counting.count_rows.Goals as goal

pub overflow_add-count : goal.overflow_add-count
overflow_add-count g c =
    let q = c.args.query.now in
    let judges = g.J.Judge.judges c.args.judge.now in
    let rows = c.args.rows.now in
    let row = c.row-item.result in
    let f = λ (r : Row g.row.A.Denot). cond (is_counted q judges r) 1 0 in
    let below : c.loop-row.row-index < length rows = omega arith in
    let counted : c.count_row-count.result ≡ count_of q (g.J.Judge.judges c.loop-row.judge) (row_of_view c.of.result ∷ []) = c.count_row-count.ensures.count in
    let here : c.count_row-count.result ≡ count_of q judges (row ∷ []) = counted
    ∙ ap (λ r. count_of q (g.J.Judge.judges c.loop-row.judge) (r ∷ [])) c.of.ensures
    ∙ ap (λ j. count_of q j (row ∷ [])) c.loop-row.invariant.same in
    let more = sum_one_more f rows c.loop-row.row-index row below c.row-item.is in
    let most = sum_by-take-le f rows (c.loop-row.row-index + 1) in
    let fits = count_by-le-length (is_counted q judges) rows in
    omega (arith, here, more, most, fits, c.loop-row.invariant.count)

pub loop-row-preserved : goal.loop-row-preserved
loop-row-preserved g c =
    let q = c.args.query.now in
    let judges = g.J.Judge.judges c.args.judge.now in
    let rows = c.args.rows.now in
    let row = c.row-item.result in
    let f = λ (r : Row g.row.A.Denot). cond (is_counted q judges r) 1 0 in
    let below : c.loop-row.row-index < length rows = omega arith in
    let counted : c.count_row-count.result ≡ count_of q (g.J.Judge.judges c.loop-row.judge) (row_of_view c.of.result ∷ []) = c.count_row-count.ensures.count in
    let here : c.count_row-count.result ≡ count_of q judges (row ∷ []) = counted
    ∙ ap (λ r. count_of q (g.J.Judge.judges c.loop-row.judge) (r ∷ [])) c.of.ensures
    ∙ ap (λ j. count_of q j (row ∷ [])) c.loop-row.invariant.same in
    let more = sum_one_more f rows c.loop-row.row-index row below c.row-item.is in
    record {
      count = omega (arith, here, more, c.loop-row.invariant.count);
      same = c.count_row-count.ensures.same ∙ c.loop-row.invariant.same;
    }

pub returns-clause-count : goal.returns-clause-count
returns-clause-count g c =
    let f = λ (r : Row g.row.A.Denot). cond (is_counted c.args.query.now (g.J.Judge.judges c.args.judge.now) r) 1 0 in
    c.loop-row.invariant.count ∙ sum_all f c.args.rows.now c.loop-row.row-index c.loop-row-test.false
