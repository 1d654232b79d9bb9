use Rattle.st_hall_station.proofs.Growing.{run_kept}
use Rattle.st_hall_station.proofs.law.all_is_kept.Goals as goal

pub returns : goal.returns
returns c start kept = run_kept start kept
