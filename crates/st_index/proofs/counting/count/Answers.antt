use Rattle.std.proofs.Common.{◌≡◌, ◌+◌, ◌<◌, length, cond, sym, ap, ◌∙◌, arith}
use Rattle.std.proofs.lemmas.List.Sums.{count_by-le-length, sum_by-take-le}
use Rattle.st_index.specs.declared.row.Row.{Row}
use Rattle.st_index.specs.inner.Counting.{count_of, is_counted}
use Rattle.st_index.specs.inner.Entries.{EntryValue, rows_of}
use Rattle.st_index.proofs.Sums.{sum_all, sum_by-flat_map, sum_one_more}
use Rattle.st_index.proofs.counting.count.Goals as goal

pub overflow_add-count : goal.overflow_add-count
overflow_add-count g c =
    let q = c.args.query.now in
    let judges = g.J.Judge.judges c.args.judge.now in
    let entries = c.args.entries.now in
    let entry = c.entry-item.result in
    let f = λ (e : EntryValue g.row.A.Denot). count_of q judges e.rows in
    let below : c.loop-entry.entry-index < length entries = omega arith in
    let here : c.count_entry-count.result ≡ f entry = c.count_entry-count.ensures.count ∙ ap (λ j. count_of q j entry.rows) c.loop-entry.invariant.same in
    let more = sum_one_more f entries c.loop-entry.entry-index entry below c.entry-item.is in
    let most = sum_by-take-le f entries (c.loop-entry.entry-index + 1) in
    let all = sum_by-flat_map (λ (r : Row g.row.A.Denot). cond (is_counted q judges r) 1 0) (λ (e : EntryValue g.row.A.Denot). e.rows) entries in
    let fits = count_by-le-length (is_counted q judges) (rows_of entries) in
    let few : length (rows_of entries) < 18446744073709551616 = c.requires in
    omega (arith, here, more, most, all, fits, few, c.loop-entry.invariant.count)

pub loop-entry-preserved : goal.loop-entry-preserved
loop-entry-preserved g c =
    let q = c.args.query.now in
    let judges = g.J.Judge.judges c.args.judge.now in
    let entries = c.args.entries.now in
    let entry = c.entry-item.result in
    let f = λ (e : EntryValue g.row.A.Denot). count_of q judges e.rows in
    let below : c.loop-entry.entry-index < length entries = omega arith in
    let here : c.count_entry-count.result ≡ f entry = c.count_entry-count.ensures.count ∙ ap (λ j. count_of q j entry.rows) c.loop-entry.invariant.same in
    let more = sum_one_more f entries c.loop-entry.entry-index entry below c.entry-item.is in
    record {
      count = omega (arith, here, more, c.loop-entry.invariant.count);
      same = c.count_entry-count.ensures.same ∙ c.loop-entry.invariant.same;
    }

pub returns-clause-count : goal.returns-clause-count
returns-clause-count g c =
    let q = c.args.query.now in
    let judges = g.J.Judge.judges c.args.judge.now in
    let f = λ (e : EntryValue g.row.A.Denot). count_of q judges e.rows in
    c.loop-entry.invariant.count
    ∙ sum_all f c.args.entries.now c.loop-entry.entry-index c.loop-entry-test.false
    ∙ sym (sum_by-flat_map (λ (r : Row g.row.A.Denot). cond (is_counted q judges r) 1 0) (λ (e : EntryValue g.row.A.Denot). e.rows) c.args.entries.now)
