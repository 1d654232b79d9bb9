use Rattle.std.proofs.Common.{arith, rules}
use Rattle.std.proofs.lemmas.Grind.{common_steps}
use Rattle.st_hall_group_commit.proofs.board.Board.keeps.Goals as goal

pub returns-clause-yes : goal.returns-clause-yes
returns-clause-yes g c = grind (arith, common_steps)

pub returns-clause-no : goal.returns-clause-no
returns-clause-no g c = search rules
