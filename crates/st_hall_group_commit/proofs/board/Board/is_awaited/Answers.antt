use Rattle.std.proofs.Common.{rules}
use Rattle.st_hall_group_commit.proofs.board.Board.is_awaited.Goals as goal

pub returns-then-not-self-clause-led : goal.returns-then-not-self-clause-led
returns-then-not-self-clause-led g c = search rules

pub returns-else-not-self-clause-led : goal.returns-else-not-self-clause-led
returns-else-not-self-clause-led g c = search rules
