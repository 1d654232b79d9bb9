use Rattle.st_hall.proofs.Deciding.{stands}
use Rattle.st_hall.proofs.law.each_at_its_place.Goals as goal

pub returns : goal.returns
returns c start front list asked reply ends begins = stands start front list asked reply ends begins
