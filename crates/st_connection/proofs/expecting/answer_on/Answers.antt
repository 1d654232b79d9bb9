use Rattle.std.proofs.Common.{◌≡◌, length, ap, refl, arith}
use Rattle.st_connection.specs.Connection.{WithInterim}
use Rattle.st_connection.specs.Render.{continue_text}
use Rattle.st_connection.proofs.Ahead.{on_nobody, on_stops, on_told, on_breaks, whole_bound}
use Rattle.st_connection.proofs.expecting.answer_on.Goals as goal

pub returns-in-Err-clause-answered : goal.returns-in-Err-clause-answered
returns-in-Err-clause-answered g c = on_stops (WithInterim g.X.Replies.answers) _ _ _ _ _ _ _ _ _ _ c.in-Err.ensures.answered

pub returns-then-not-due-clause-answered : goal.returns-then-not-due-clause-answered
returns-then-not-due-clause-answered g c =
    on_nobody (WithInterim g.X.Replies.answers) 0 _ _ (g.X.Replies.kept c.answer_all.new.answerer) _ _ _ _ _ _
    (rw c.if-not-due.true at (rw c.in-Ok-Waits.field-0-is at c.in-Ok-Waits.ensures.answered))

pub returns-in-Ok-clause-answered : goal.returns-in-Ok-clause-answered
returns-in-Ok-clause-answered g c =
    on_told (WithInterim g.X.Replies.answers) 0 _ _ (g.X.Replies.kept c.answer_all.new.answerer) _ _ _ _ _ _
    (rw c.if-not-due.false at (rw c.in-Ok-Waits.field-0-is at c.in-Ok-Waits.ensures.answered)) (g.X.Replies.kept c.answer_all.new.answerer) _ _ _ c.continue_text.ensures c.in-Ok.ensures.sent

pub returns-in-Err-write_all-clause-answered : goal.returns-in-Err-write_all-clause-answered
returns-in-Err-write_all-clause-answered g c =
    on_breaks (WithInterim g.X.Replies.answers) _ _ _ (g.X.Replies.kept c.answer_all.new.answerer) _ _ _ _ _ _
    (rw c.if-not-due.false at (rw c.in-Ok-Waits.field-0-is at c.in-Ok-Waits.ensures.answered)) (g.X.Replies.kept c.answer_all.new.answerer) _ _ _
    c.continue_text.ensures c.in-Err-write_all.ensures.sent

pub write_all-requires : goal.write_all-requires
write_all-requires g c =
    let a = rw c.in-Ok-Waits.field-0-is at c.in-Ok-Waits.ensures.answered in
    let b = whole_bound _ _ _ _ _ _ _ _ _ a.2 in
    let n : length continue_text ≡ 25 = refl in omega (arith, b, n, ap length c.continue_text.ensures, c.requires.room)
