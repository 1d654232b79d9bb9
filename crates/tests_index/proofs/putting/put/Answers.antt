use Rattle.std.proofs.Common.{◌≡◌, ap, ◌∙◌}
use Rattle.st_key.specs.Key.{rank}
use Rattle.st_index.specs.declared.row.Row.{Row}
use Rattle.st_index.specs.inner.Entries.{name_of, rank_of}
use Rattle.tests_index.proofs.putting.put.Goals as goal

pub put_new-requires : goal.put_new-requires
put_new-requires g c =
    let A = g.row.I-Alloc.Denot in
    let row : Row A = g.I.Row.AsRow.value c.args.row in
    let period = g.I.RowIndex.period_of c.args.index.now in
    let same = rw c.in-None.is at c.remove.ensures.none in
    let absent = rw c.in-None.is at c.remove.ensures.absent in
    let at : rank c.key-key.result ≡ rank_of period row = c.key-key.ensures.value ∙ ap (λ p. rank_of p c.as_row.result.now) c.period.ensures.value
    ∙ ap (λ (r : Row A). rank_of period r) c.as_row.ensures in
    let id = c.as_str.ensures.value ∙ ap (λ (r : Row A). r.id) c.as_row-named.ensures in
    let label = c.text.ensures.value ∙ ap (λ (r : Row A). r.label) c.as_row-named.ensures in
    let name : record { id = c.as_str.result.now; label = c.text.result.now } ≡ name_of row = λ i. record { id = id i; label = label i } in
    rw (same, c.remove.ensures.period, ← at, ← name) absent
