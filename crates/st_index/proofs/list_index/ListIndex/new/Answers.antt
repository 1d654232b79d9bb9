use Rattle.std.proofs.Common.{rules}
use Rattle.st_index.proofs.list_index.ListIndex.new.Goals as goal

pub returns : goal.returns
returns g c = search rules
