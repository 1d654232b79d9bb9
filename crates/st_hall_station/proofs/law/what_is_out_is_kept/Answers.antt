use Rattle.st_hall_station.proofs.Growing.{out_kept}
use Rattle.st_hall_station.proofs.law.what_is_out_is_kept.Goals as goal

pub returns : goal.returns
returns c start kept lost has = out_kept start kept lost.before lost.synced lost.after lost.items lost.answers lost.sent has lost.past
