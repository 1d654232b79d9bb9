use Rattle.std.proofs.Common.{◌<◌, length, arith}
use Rattle.st_tally.proofs.Marking.{marks_altered, marks_whole}
use Rattle.st_tally.proofs.page_marks.alter_entry.Goals as goal

pub returns-clause-marks : goal.returns-clause-marks
returns-clause-marks g c = λ old differ are _.
    let labels = c.args.labels.now.items in
    let entries = c.args.entries.now in
    let there : c.args.at < length entries = omega (arith, c.if-at-entries.false) in
    marks_whole labels c.mark_entry.new.labels.items entries c.args.page.now c.mark_entry.new.page c.args.at c.index-entries-at.result c.mark_entry.ensures.keeps
    (there, c.index-entries-at.is) c.mark_entry.ensures.mark c.mark_entry.ensures.others (marks_altered labels old entries c.args.page.now c.args.at differ are)
