use Rattle.std.proofs.Common.{List, map, ap, ◌∙◌}
use Rattle.st_index.specs.declared.row.Row.{Row}
use Rattle.st_index.specs.RowViews.{row_of_view}
use Rattle.st_scan.specs.Visible.{is_visible_inside}
use Rattle.st_policy.specs.declared.reply.Reply.{Reply}
use Rattle.st_core.proofs.Pages.{paged}
use Rattle.st_core.proofs.store.Store.page.Goals as goal

pub returns : goal.returns
returns g c =
    let copied = c.in_ok-copy_rows.ensures ∙ ap (map row_of_view) c.deref.ensures.value in
    let rows = rw (c.get.ensures.value, c.as_ref.ensures.value) at c.in-Ok.ensures.rows in
    let more = rw (c.get.ensures.value, c.as_ref.ensures.value) at c.in-Ok.ensures.more in
    ap (λ (rows : List (Row g.row.A.Denot)). Reply.Page rows c.in-Ok.page.more) copied
    ∙ paged c.args.self.now c.args.table.now c.args.query.now c.args.auths.now c.args.limit c.args.after.now c.table.result.now.period c.table.result.now.rows _ c.in-Ok.page.more
    c.table.ensures.period (c.table.ensures.scans (is_visible_inside c.args.query.now c.args.auths.now)) rows more
