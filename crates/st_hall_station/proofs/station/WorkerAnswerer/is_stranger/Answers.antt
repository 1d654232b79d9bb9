use Rattle.std.proofs.Common.{rules}
use Rattle.st_hall_station.proofs.station.WorkerAnswerer.is_stranger.Goals as goal

pub returns-clause-stranger : goal.returns-clause-stranger
returns-clause-stranger g c = search rules
