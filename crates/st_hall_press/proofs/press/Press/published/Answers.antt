use Rattle.std.proofs.Common.{rules}
use Rattle.st_hall_press.proofs.Following.{follows_prefix}
use Rattle.st_hall_press.proofs.press.Press.published.Goals as goal

pub returns-clause-begins : goal.returns-clause-begins
returns-clause-begins g c = rw (← c.self.view_is) (follows_prefix g.H.HallName.start _ _ _ c.self.invariant.1)

pub returns-clause-store : goal.returns-clause-store
returns-clause-store g c = search rules
