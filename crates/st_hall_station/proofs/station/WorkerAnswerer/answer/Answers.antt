use Rattle.st_hall_station.proofs.Seated.{seated_nobody, seated_unasked}
use Rattle.st_hall_station.proofs.station.WorkerAnswerer.answer.Goals as goal

pub returns-then-is_lost-clause-seat : goal.returns-then-is_lost-clause-seat
returns-then-is_lost-clause-seat g c = seated_unasked g.H.HallName.start c.args.self.now.post.seat c.args.message.now _ c.busy.ensures

pub returns-in-Some-clause-seat : goal.returns-in-Some-clause-seat
returns-in-Some-clause-seat g c = seated_nobody g.H.HallName.start c.args.self.now.post.seat c.args.message.now _ c.in-Some.ensures.unrouted c.in-Some.ensures.told
