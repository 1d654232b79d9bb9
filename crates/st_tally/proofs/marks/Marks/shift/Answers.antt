use Rattle.std.proofs.Common.{◌≡◌, ◌<◌, false, length, length-set, arith}
use Rattle.std.proofs.Math.ListN.{set}
use Rattle.st_tally.proofs.Marking.{marked_set}
use Rattle.st_tally.proofs.Placing.{keeps_all}
use Rattle.st_tally.proofs.marks.Marks.shift.Goals as goal

pub returns : goal.returns
returns g c = λ kids marked.
    let labels = c.args.self.now.labels.items in
    let pages = c.args.self.now.pages.items in
    let at = c.args.at in
    let next = c.saturating_add-next.result in
    let first = c.shifted.result.0 in
    let second = c.shifted.result.1 in
    let fits : next < length pages = omega (arith, c.if-next-len.false, c.len.ensures, c.args.self.now.pages.ok.0) in
    let low : at < length pages = omega (arith, fits, c.saturating_add-next.ensures, c.ranges.at.fits) in
    let long = length-set pages at first in
    let one = marked_set labels labels pages kids kids at first (keeps_all labels) low (λ i v ne h. h) (λ v known h. let off : first.known ≡ false = c.shifted.ensures.first in cc) marked in
    marked_set labels labels (set pages at first) kids kids next second (keeps_all labels) (omega (arith, fits, long)) (λ i v ne h. h)
    (λ v known h. let off : second.known ≡ false = c.shifted.ensures.second in cc) one
