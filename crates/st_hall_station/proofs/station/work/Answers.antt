use Rattle.std.proofs.Common.{◌≡◌, false}
use Rattle.st_hall_station.proofs.Growing.{serves_at_once}
use Rattle.st_hall_station.proofs.station.work.Goals as goal

pub returns-clause-served : goal.returns-clause-served
returns-clause-served g c =
    let here : c.args.station.now.has_failed ≡ false = cc (c.station.view_is, c.is_sound.ensures) in
    serves_at_once g.H.HallName.start c.args.station.now c.serve.new.self _ c.serve.result
    here c.serve.ensures.lost c.serve.ensures.served
