use Rattle.std.specs.Prelude.{length}
use Rattle.st_hall_desk.proofs.scribe.+add_up.Given as goal

-- each call has one desk less
abbrev pub decreases-add_up : goal.decreases-add_up
decreases-add_up g l = length l.desks.now
