use Rattle.st_hall_desk.proofs.Worlds.{shows_no_more}
use Rattle.st_hall_desk.proofs.law.a_desk_shows_no_more.Goals as goal

pub returns : goal.returns
returns c start user seen asked read = shows_no_more start user seen asked read.own read.reads read.never
