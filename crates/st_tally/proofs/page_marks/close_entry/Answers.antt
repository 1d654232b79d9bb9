use Rattle.std.proofs.Common.{◌≡◌, ◌≤◌, ◌<◌, length, arith, rules}
use Rattle.st_tally.proofs.Marking.{marks_closed}
use Rattle.st_tally.proofs.Placing.{closes_copied}
use Rattle.st_tally.proofs.page_marks.close_entry.Goals as goal

pub returns : goal.returns
returns g c = λ old closes are _.
    let entries = c.args.entries.now in
    let at = c.args.at in
    let p = c.args.page.now in
    let q = record p { numbers = c.copy_within.new.self; spots = c.copy_within-2.new.self } in
    let there : at ≤ length entries = omega (arith, c.if-at-count.false) in
    let few : length entries < 32 = omega (arith, c.if-count-ge32.false) in
    let numbers : length p.numbers ≡ 32 = search rules in
    let spots : length p.spots ≡ 32 = search rules in
    marks_closed c.args.labels.now old entries p q at closes (λ i. p.week)
    (closes_copied p.numbers q.numbers at (length entries) there (omega (arith, few, numbers)) c.copy_within.ensures.len c.copy_within.ensures.by_index.0 c.copy_within.ensures.by_index.1)
    (closes_copied p.spots q.spots at (length entries) there (omega (arith, few, spots)) c.copy_within-2.ensures.len c.copy_within-2.ensures.by_index.0 c.copy_within-2.ensures.by_index.1) are

pub returns-then-at-count : goal.returns-then-at-count
returns-then-at-count g c = λ old closes marks known. absurd (cc known)
