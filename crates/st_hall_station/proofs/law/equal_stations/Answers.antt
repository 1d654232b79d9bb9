use Rattle.st_hall_station.proofs.EqualBytes.{equal_unasked, own_equal}
use Rattle.st_hall_station.proofs.law.equal_stations.Goals as goal

pub returns-clause-own : goal.returns-clause-own
returns-clause-own c = own_equal

pub returns-clause-asks_nothing : goal.returns-clause-asks_nothing
returns-clause-asks_nothing c start begun item one two nothing =
    equal_unasked start begun item one.before one.after two.before two.after one.answer two.answer nothing one.told two.told one.not_busy two.not_busy
