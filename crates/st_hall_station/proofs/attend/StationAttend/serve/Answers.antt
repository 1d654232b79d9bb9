use Rattle.st_hall_station.proofs.Growing.{goes_on}
use Rattle.st_hall_station.proofs.attend.StationAttend.serve.Goals as goal

pub returns-clause-grows : goal.returns-clause-grows
returns-clause-grows g c = goes_on g.H.HallName.start g.M.Commits.HOLD c.args.self.now c.serve.new.self _ c.serve.result c.serve.ensures.served
