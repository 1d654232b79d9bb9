use Rattle.std.proofs.Common.{◌<◌, ◌≤◌, false, length, arith}
use Rattle.st_tally.proofs.Marking.{marked_off, marked_set}
use Rattle.st_tally.proofs.Placing.{keeps_all}
use Rattle.st_tally.proofs.marks.Marks.clear_page.Goals as goal

pub returns-then-at-len : goal.returns-then-at-len
returns-then-at-len g c = λ old new differ marked.
    let over : length c.args.self.now.pages.items ≤ c.args.at = omega (arith, c.if-at-len.true, c.len.ensures, c.args.self.now.pages.ok.0) in
    marked_off c.args.self.now.labels.items c.args.self.now.pages.items old new c.args.at over differ marked

pub returns : goal.returns
returns g c = λ old new differ marked.
    let low : c.args.at < length c.args.self.now.pages.items = omega (arith, c.if-at-len.false, c.len.ensures, c.args.self.now.pages.ok.0) in
    let labels = c.args.self.now.labels.items in
    let page = record c.index_mut-page.result.now { known = false } in
    marked_set labels labels c.args.self.now.pages.items old new c.args.at page (keeps_all labels) low differ (λ v known h. cc) marked
