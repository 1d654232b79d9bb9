use Rattle.st_service.proofs.Together.{equal_runs}
use Rattle.st_service.proofs.law.equal_service.Goals as goal

pub returns-clause-runs : goal.returns-clause-runs
returns-clause-runs g c s user one two same = equal_runs s user one two same

pub returns-clause-served : goal.returns-clause-served
returns-clause-served g c s t streams result call = call.within.run
