use Rattle.std.proofs.Common.{rules}
use Rattle.st_index.proofs.row_point.KeyPoint.point.Goals as goal

pub unreachable-requires : goal.unreachable-requires
unreachable-requires c = search rules

pub returns : goal.returns
returns c = search rules
