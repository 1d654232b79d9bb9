use Rattle.std.proofs.Common.{◌≡◌, inl, ◌∙◌, subst}
use Rattle.st_hall.specs.Views.{Seat}
use Rattle.st_hall_press.proofs.Fronts.{learns_from}
use Rattle.st_service.specs.Bytes.{bytes_of}
use Rattle.st_service.specs.Answers.{parsed_in}
use Rattle.st_hall_station.specs.Seats.{SeatAnswers}
use Rattle.st_hall_station.proofs.station.WorkerAnswererReplies.reply.Goals as goal

pub returns : goal.returns
returns g c =
    let same : c.args.self.now ≡ c.self.inside.worker = cc (c.self.view_is) in
    let answered = c.answer-answer.ensures in
    let begun = c.begin.ensures in
    record {
      answered = rw same (record {
        seat = subst (λ (s : Seat). SeatAnswers g.H.HallName.start s (parsed_in c.args.message.now) (bytes_of c.answer-answer.result) c.answer-answer.new.self.post.seat) begun.seat answered.seat;
        number = answered.number ∙ begun.number;
        calls = answered.calls ∙ begun.calls;
        learns = learns_from c.self.inside.worker.post c.begin.new.self.post c.answer-answer.new.self.post begun.learnt begun.seat answered.learns;
      });
      kept = inl (rw same (answered.same.0 ∙ begun.same.0));
      sound = answered.same.1 ∙ (begun.same.1 ∙ rw (← same) c.requires);
    }
