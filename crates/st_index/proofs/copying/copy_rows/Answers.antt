use Rattle.std.proofs.Common.{◌<◌, length, arith}
use Rattle.st_index.proofs.Copied.{one_copied}
use Rattle.st_index.proofs.copying.copy_rows.Goals as goal

pub loop-row-preserved : goal.loop-row-preserved
loop-row-preserved g c =
    let xs = c.args.rows.now in
    let i = c.loop-row.row-index in
    let below : i < length xs = omega arith in
    one_copied xs c.loop-row.copies.items c.push.new.self.items i c.row-item.result c.in_ok-copy.field-0 below c.row-item.is c.in_ok-copy.ensures c.loop-row.invariant c.in_ok-push.ensures.items
