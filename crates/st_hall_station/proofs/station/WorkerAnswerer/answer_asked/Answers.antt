use Rattle.std.proofs.Common.{sym}
use Rattle.st_hall_station.proofs.Seated.{seated, seated_unasked}
use Rattle.st_hall_station.proofs.station.WorkerAnswerer.answer_asked.Goals as goal

pub returns-in_default-clause-seat : goal.returns-in_default-clause-seat
returns-in_default-clause-seat g c = seated_unasked g.H.HallName.start c.args.self.now.post.seat c.args.message.now _ c.busy.ensures

pub returns-clause-seat : goal.returns-clause-seat
returns-clause-seat g c =
    let asked = c.ask-told.ensures in
    let answered = c.answer_of.ensures in
    let token = (c.in-Ok.ensures c.requires.found.0 c.requires.found.1 c.requires.found.2).token_is in
    rw (sym c.self.view_is) (seated g.H.HallName.start c.self.inside.worker.post.seat c.ask-told.new.self.post.seat c.args.message.now _ c.in-Ok.asked
    c.requires.found c.in-Ok.ensures token c.ask-told.result asked.seen asked.made asked.decided asked.read asked.reply
    answered.ok answered.stranger answered.busy)
