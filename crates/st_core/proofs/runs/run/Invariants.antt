use Rattle.std.proofs.Common.{◌≤◌, length, vec_capacity}
use Rattle.st_core.proofs.Progress.{Running}
use Rattle.st_core.proofs.runs.run.Given as goal

abbrev pub invariant-loop-one : goal.invariant-loop-one
invariant-loop-one g l = Running l.fn.store l.store l.asked l.one-index l.replies.items × (length l.asked ≤ vec_capacity l.replies)
