use Rattle.std.proofs.Common.{◌≡◌, sym, ap, ◌∙◌, subst}
use Rattle.st_index.specs.declared.row.Row.{Row}
use Rattle.st_index.specs.RowViews.{row_of_view}
use Rattle.st_table.specs.Table.{TableValue, with_row}
use Rattle.st_table.proofs.Rebuilding.{Puts, put_next}
use Rattle.st_table.proofs.moving.put_all.Goals as goal

pub rows-preserved : goal.rows-preserved
rows-preserved g c =
    let period = c.args.table.now.period in
    let all = c.args.walk.now.left in
    let put = c.in_ok-put.ensures.ok in
    let rows : c.put.new.self.rows ≡ with_row c.rows.table.period (row_of_view c.in-Some.row) c.rows.table.rows =
    ap (λ (t : TableValue g.row.I-Alloc.Denot). t.rows) put ∙ ap (λ (r : Row g.row.I-Alloc.Denot). with_row c.rows.table.period r c.rows.table.rows) c.in_ok-copy.ensures in
    let same : c.put.new.self.period ≡ period = ap (λ (t : TableValue g.row.I-Alloc.Denot). t.period) put ∙ c.rows.invariant.0 in (
      same,
      subst (λ xs. Puts period all xs c.next.new.self.left) (sym (rows ∙ ap (λ p. with_row p (row_of_view c.in-Some.row) c.rows.table.rows) c.rows.invariant.0))
          (put_next period all c.rows.table.rows c.rows.walk.left c.next.new.self.left (row_of_view c.in-Some.row) c.requires.once c.rows.invariant.1 c.in-Some.ensures.some),
    )
