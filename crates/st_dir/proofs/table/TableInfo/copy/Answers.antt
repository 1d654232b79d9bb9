use Rattle.std.proofs.Common.{rules}
use Rattle.st_dir.proofs.table.TableInfo.copy.Goals as goal

pub returns : goal.returns
returns c = search rules
