use Rattle.std.proofs.Common.{sym, subst}
use Rattle.st_index.specs.inner.Changes.{IsChange}
use Rattle.st_tally.specs.inner.Marks.{AreMarks, ClosesAt, DifferAt, OpensAt}
use Rattle.st_tally.proofs.Placing.{closes_remove, differ_set, keeps_all, opens_insert}
use Rattle.st_tally.proofs.page_marks.follow.Goals as goal

pub returns-in-Opened-clause-marks : goal.returns-in-Opened-clause-marks
returns-in-Opened-clause-marks g c = λ old change are done.
    let is = subst (λ x. IsChange x old c.args.entries.now) c.in-Opened.is change in
    c.open_entry.ensures.marks old (subst (OpensAt c.in-Opened.at old) (sym is.2) (opens_insert old c.in-Opened.at is.1 is.0)) are done

pub returns-in-Altered-clause-marks : goal.returns-in-Altered-clause-marks
returns-in-Altered-clause-marks g c = λ old change are done.
    let is = subst (λ x. IsChange x old c.args.entries.now) c.in-Altered.is change in
    c.alter_entry.ensures.marks old (subst (DifferAt c.in-Altered.at old) (sym is.2) (differ_set old c.in-Altered.at is.1)) are done

pub returns-in-Closed-clause-marks : goal.returns-in-Closed-clause-marks
returns-in-Closed-clause-marks g c = λ old change are done.
    let is = subst (λ x. IsChange x old c.args.entries.now) c.in-Closed.is change in
    let closes = subst (ClosesAt c.in-Closed.at old) (sym is.1) (closes_remove old c.in-Closed.at is.0) in
    let before = subst (λ ls. AreMarks ls old c.args.page.now) (sym c.as_slice.ensures.value) are in
    subst (λ ls. AreMarks ls c.args.entries.now c.close_entry.new.page) c.as_slice.ensures.value (c.close_entry.ensures old closes before done)

pub returns-in-Closed-clause-keeps : goal.returns-in-Closed-clause-keeps
returns-in-Closed-clause-keeps g c = keeps_all c.args.labels.now.items
