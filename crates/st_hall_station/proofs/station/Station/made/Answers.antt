use Rattle.std.proofs.Common.{rules}
use Rattle.st_hall_station.proofs.station.Station.made.Goals as goal

pub returns : goal.returns
returns g c = search rules
