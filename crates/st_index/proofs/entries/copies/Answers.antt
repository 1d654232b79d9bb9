use Rattle.std.proofs.Common.{◌<◌, length, arith}
use Rattle.st_index.proofs.Copied.{one_copied}
use Rattle.st_index.proofs.entries.copies.Goals as goal

pub loop-entry-preserved : goal.loop-entry-preserved
loop-entry-preserved g c =
    let es = c.args.entries.now in
    let i = c.loop-entry.entry-index in
    let below : i < length es = omega arith in
    let wide = c.in_ok-push.ensures.capacity in
    let room = c.loop-entry.invariant.room in
    record {
      items = one_copied es c.loop-entry.copies.items c.push.new.self.items i c.entry-item.result c.in_ok-copy.field-0 below c.entry-item.is
          c.in_ok-copy.ensures c.loop-entry.invariant.items c.in_ok-push.ensures.items;
      room = omega (arith, wide, room);
    }
