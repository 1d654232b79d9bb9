use Rattle.std.proofs.Common.{◌+◌, length}
use Rattle.st_auth.proofs.Merge.{Decide}
use Rattle.st_auth.proofs.auths.Auths.has_all.Given as goal

-- what is left of both orders
abbrev pub invariant-theirs : goal.invariant-theirs
invariant-theirs g l = Decide l.self-inside.names.items l.other-inside.names.items l.ours l.theirs

abbrev pub decreases-theirs : goal.decreases-theirs
decreases-theirs g l = length l.ours + length l.theirs
