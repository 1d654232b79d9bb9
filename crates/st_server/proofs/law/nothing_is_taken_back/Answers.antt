use Rattle.st_hall_group_commit.proofs.Batches.{again}
use Rattle.st_hall_station.proofs.Growing.{out_kept, run_kept}
use Rattle.st_server.proofs.Chained.{each_so}
use Rattle.st_server.proofs.law.nothing_is_taken_back.Goals as goal

pub returns-clause-each : goal.returns-clause-each
returns-clause-each g c = λ start hold kept old new. each_so start hold kept g.C.Client.call old new

pub returns-clause-out : goal.returns-clause-out
returns-clause-out g c = λ start kept. run_kept start kept

pub returns-clause-lost : goal.returns-clause-lost
returns-clause-lost g c = λ start kept lost has.
    out_kept start kept lost.before lost.synced lost.after lost.items lost.answers lost.sent has lost.past

pub returns-clause-found : goal.returns-clause-found
returns-clause-found g c = λ first start found kept list left. again first start found kept list left
