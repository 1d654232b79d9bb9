use Rattle.std.proofs.Common.{◌<◌, length, arith}
use Rattle.st_tally.proofs.Marking.{marks_more}
use Rattle.st_tally.proofs.Placing.{keeps_all}
use Rattle.st_tally.proofs.page_marks.mark_page.Goals as goal

pub loop-at-init : goal.loop-at-init
loop-at-init g c = record {
  keeps = keeps_all c.args.labels.now.items;
  marks = λ i e l. absurd (omega (arith, l));
}

pub loop-at-preserved : goal.loop-at-preserved
loop-at-preserved g c =
    let n = c.loop-at.at in
    let was = c.loop-at.invariant in
    let below : n < length c.args.entries.now = omega arith in
    record {
      keeps = λ i l h. c.mark_entry.ensures.keeps i l (was.keeps i l h);
      marks = marks_more c.loop-at.labels.items c.mark_entry.new.labels.items c.args.entries.now c.loop-at.page c.mark_entry.new.page n c.index-entries-at.result
          c.mark_entry.ensures.keeps (below, c.index-entries-at.is) c.mark_entry.ensures.mark c.mark_entry.ensures.others was.marks;
    }

pub returns-clause-marks : goal.returns-clause-marks
returns-clause-marks g c = λ i e h. c.loop-at.invariant.marks i e (omega (arith, h.0, c.loop-at-test.false)) h

pub returns-clause-keeps : goal.returns-clause-keeps
returns-clause-keeps g c = c.loop-at.invariant.keeps
