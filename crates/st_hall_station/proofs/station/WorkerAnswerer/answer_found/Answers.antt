use Rattle.std.proofs.Common.{inl, subst}
use Rattle.st_hall_station.specs.Seats.{IsStrange}
use Rattle.st_hall_station.proofs.Seated.{learns_later, seated_later, seated_stranger}
use Rattle.st_hall_station.proofs.station.WorkerAnswerer.answer_found.Goals as goal

pub returns-then-is_stranger-clause-learns : goal.returns-then-is_stranger-clause-learns
returns-then-is_stranger-clause-learns g c = inl c.is_stranger.ensures.learnt

pub returns-then-is_stranger-clause-seat : goal.returns-then-is_stranger-clause-seat
returns-then-is_stranger-clause-seat g c =
    seated_stranger g.H.HallName.start c.args.self.now.post.seat c.is_stranger.new.self.post.seat c.args.message.now _ c.requires
    (subst (IsStrange g.H.HallName.start c.is_stranger.new.self.post.seat.seen) c.token_of-token.ensures (c.is_stranger.ensures.stranger c.if-is_stranger.true))
    c.is_stranger.ensures.moves c.to_stranger.ensures

pub returns-clause-learns : goal.returns-clause-learns
returns-clause-learns g c =
    learns_later c.args.self.now.post c.is_stranger.new.self.post c.answer_asked.new.self.post c.is_stranger.ensures.learnt c.is_stranger.ensures.moves
    c.answer_asked.ensures.learns

pub returns-clause-seat : goal.returns-clause-seat
returns-clause-seat g c =
    seated_later g.H.HallName.start c.args.self.now.post.seat c.is_stranger.new.self.post.seat c.answer_asked.new.self.post.seat c.args.message.now _ c.requires
    c.is_stranger.ensures.moves c.answer_asked.ensures.seat
