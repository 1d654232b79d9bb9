use Rattle.std.proofs.Common.{rules}
use Rattle.st_hall_group_commit.proofs.board.Board.end.Goals as goal

pub returns : goal.returns
returns g c = search rules
