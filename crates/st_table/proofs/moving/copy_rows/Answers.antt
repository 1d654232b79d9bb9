use Rattle.std.proofs.Common.{◌≡◌, OnOk, sym, ◌∙◌, subst}
use Rattle.st_box.specs.Query.{HasKey}
use Rattle.st_text.specs.Texts.{in_order}
use Rattle.st_index.specs.Order.{scan_key}
use Rattle.st_table.specs.Table.{TableValue}
use Rattle.st_table.specs.inner.Once.{HasEachOnce}
use Rattle.st_table.proofs.Rebuilding.{filter_inside}
use Rattle.st_table.proofs.moving.copy_rows.Goals as goal

pub new-walk-requires : goal.new-walk-requires
new-walk-requires g c =
    record { exact = λ k held. subst (λ p. HasKey c.everywhere-query.result p k) c.period.ensures.value (c.in-Ok.ensures.exact k held) }

pub put_all-requires-clause-once : goal.put_all-requires-clause-once
put_all-requires-clause-once g c =
    let rows = g.I.RowIndex.content c.args.index.now in
    let whole : c.new-walk.result.left ≡ rows = c.new-walk.ensures.left ∙ filter_inside c.everywhere-query.result rows c.everywhere-query.ensures in
    subst (λ xs. HasEachOnce xs) (sym whole) c.requires.once

pub returns : goal.returns
returns g c =
    let rows = g.I.RowIndex.content c.args.index.now in
    let period = c.args.table.now.period in
    let whole : c.new-walk.result.left ≡ rows = c.new-walk.ensures.left ∙ filter_inside c.everywhere-query.result rows c.everywhere-query.ensures in
    let table : TableValue g.row.I-Alloc.Denot = c.put_all.new.table in
    subst (λ xs. OnOk c.put_all.result (table ≡ record { period = period; rows = in_order (scan_key period) xs })) whole c.put_all.ensures
