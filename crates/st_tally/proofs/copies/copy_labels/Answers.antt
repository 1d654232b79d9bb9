use Rattle.std.proofs.Common.{◌≡◌, ◌<◌, length, get_or, subst, arith}
use Rattle.st_index.proofs.Copied.{one_copied}
use Rattle.st_tally.proofs.copies.copy_labels.Goals as goal

pub loop-label-preserved : goal.loop-label-preserved
loop-label-preserved g c =
    let i = c.loop-label.label-index in
    let x = c.label-item.result in
    let same = c.deref-label-items.ensures.value in
    let below : i < length c.deref-label-items.result.now = omega arith in
    let there = subst (λ xs. i < length xs) same below in
    let read = subst (λ xs. x ≡ get_or xs i x) same c.label-item.is in
    one_copied c.args.labels.now.items c.loop-label.copies.items c.push.new.self.items i x c.in_ok-copy.field-0 there read c.in_ok-copy.ensures c.loop-label.invariant c.in_ok-push.ensures.items
