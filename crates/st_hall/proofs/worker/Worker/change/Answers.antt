use Rattle.std.proofs.Common.{List, subst, sym}
use mathlib.Core.List.{IsPrefix}
use Rattle.st_hall_press.specs.Steps.{Ask}
use Rattle.st_hall.proofs.Deciding.{decides_on, learns_seen}
use Rattle.st_hall.proofs.worker.Worker.change.Goals as goal

pub returns-in-Ok-clause-seen : goal.returns-in-Ok-clause-seen
returns-in-Ok-clause-seen g c =
    rw (← c.self.view_is) (subst (λ (l : List Ask). IsPrefix c.self.inside.desk.seen l) (sym c.take.ensures.seen)
    (decides_on g.H.HallName.start c.self.inside.desk.seen c.args.asked.now c.in-Ok.outcome.reply c.in-Ok.outcome.front c.in-Ok.ensures.decided))

pub returns-in-Ok-clause-learns : goal.returns-in-Ok-clause-learns
returns-in-Ok-clause-learns g c =
    rw (← c.self.view_is) (learns_seen
    (record { number = c.self.inside.number; calls = c.self.inside.calls; learnt = c.self.inside.learnt; seat = c.self.inside.desk }) c.take.new.self.post c.in-Ok.outcome.front
    (decides_on g.H.HallName.start c.self.inside.desk.seen c.args.asked.now c.in-Ok.outcome.reply c.in-Ok.outcome.front c.in-Ok.ensures.decided)
    c.take.ensures.learnt c.take.ensures.seen)
