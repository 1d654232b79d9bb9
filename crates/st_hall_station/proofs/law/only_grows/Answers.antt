use Rattle.st_hall_station.proofs.Growing.{run_grows, run_remembers}
use Rattle.st_hall_station.proofs.law.only_grows.Goals as goal

pub returns-clause-seen : goal.returns-clause-seen
returns-clause-seen c start s t streams result served = (run_grows start s t served.within.items served.within.answers served.within.run).0

pub returns-clause-made : goal.returns-clause-made
returns-clause-made c start s t streams result served = (run_grows start s t served.within.items served.within.answers served.within.run).1

pub returns-clause-learnt : goal.returns-clause-learnt
returns-clause-learnt c start s t streams result served begins =
    (run_remembers start s t served.within.items served.within.answers served.within.run begins).0

pub returns-clause-begins : goal.returns-clause-begins
returns-clause-begins c start s t streams result served begins =
    (run_remembers start s t served.within.items served.within.answers served.within.run begins).1
