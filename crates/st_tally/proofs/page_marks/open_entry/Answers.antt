use Rattle.std.proofs.Common.{◌≡◌, ◌<◌, length, arith, rules}
use Rattle.st_tally.proofs.Marking.{marks_opened, marks_whole}
use Rattle.st_tally.proofs.Placing.{opens_copied}
use Rattle.st_tally.proofs.page_marks.open_entry.Goals as goal

pub returns-clause-marks : goal.returns-clause-marks
returns-clause-marks g c = λ old opens are _.
    let labels = c.args.labels.now.items in
    let entries = c.args.entries.now in
    let at = c.args.at in
    let p = c.args.page.now in
    let q = record p { numbers = c.copy_within.new.self; spots = c.copy_within-2.new.self } in
    let there : at < length entries = omega (arith, c.if-at-count.false) in
    let few = c.requires in
    let numbers : length p.numbers ≡ 32 = search rules in
    let spots : length p.spots ≡ 32 = search rules in
    let moved = marks_opened labels old entries p q at opens few (λ i. p.week)
    (opens_copied p.numbers q.numbers at (length entries) there (omega (arith, few, numbers)) c.copy_within.ensures.len c.copy_within.ensures.by_index.0 c.copy_within.ensures.by_index.1)
    (opens_copied p.spots q.spots at (length entries) there (omega (arith, few, spots)) c.copy_within-2.ensures.len c.copy_within-2.ensures.by_index.0 c.copy_within-2.ensures.by_index.1) are in
    marks_whole labels c.mark_entry.new.labels.items entries q c.mark_entry.new.page at c.index-entries-at.result c.mark_entry.ensures.keeps
    (there, c.index-entries-at.is) c.mark_entry.ensures.mark c.mark_entry.ensures.others moved

pub returns-then-at-count-clause-marks : goal.returns-then-at-count-clause-marks
returns-then-at-count-clause-marks g c = λ old opens marks known. absurd (cc known)
