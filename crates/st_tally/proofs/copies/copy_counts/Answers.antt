use Rattle.std.proofs.Common.{◌≡◌, ◌<◌, length, get_or, subst, arith}
use Rattle.st_index.proofs.Copied.{one_copied}
use Rattle.st_tally.proofs.copies.copy_counts.Goals as goal

pub loop-count-preserved : goal.loop-count-preserved
loop-count-preserved g c =
    let i = c.loop-count.count-index in
    let x = c.count-item.result in
    let same = c.deref-count-items.ensures.value in
    let below : i < length c.deref-count-items.result.now = omega arith in
    let there = subst (λ xs. i < length xs) same below in
    let read = subst (λ xs. x ≡ get_or xs i x) same c.count-item.is in
    one_copied c.args.counts.now.items c.loop-count.copies.items c.push.new.self.items i x c.in_ok-copy.field-0 there read c.in_ok-copy.ensures c.loop-count.invariant c.in_ok-push.ensures.items
