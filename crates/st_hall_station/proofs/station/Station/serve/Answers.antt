use Rattle.std.proofs.Common.{◌≡◌, false, length, ap, sym, ◌∙◌}
use Rattle.st_hall_station.proofs.Growing.{serves_kept}
use Rattle.st_hall_station.proofs.station.Station.serve.Goals as goal

pub returns-clause-served : goal.returns-clause-served
returns-clause-served g c =
    let here : c.self.inside.answerer.has_failed ≡ false = sym c.has_failed.ensures.is ∙ c.if-has_failed.false in
    let size : length c.as_mut_slice-2.result.now ≡ g.M.Commits.HOLD = ap length c.as_mut_slice-2.ensures.value ∙ c.self.invariant.1 in
    let then = c.serve_connection-ended.new in
    rw (sym c.self.view_is) (serves_kept g.H.HallName.start g.M.Commits.HOLD (length c.as_mut_slice-2.result.now)
    c.self.inside.answerer then.answerer _ c.serve_connection-ended.result
    here size c.serve_connection-ended.ensures.served c.serve_connection-ended.ensures.kept)
