use Rattle.st_hall_station.proofs.EqualRuns.{equal_runs}
use Rattle.st_hall_station.proofs.law.equal_runs.Goals as goal

pub returns : goal.returns
returns c = λ start user items one two same.
    equal_runs start user items one.before one.after two.before two.after one.texts two.texts one.run two.run
    one.none_busy two.none_busy one.never two.never same
