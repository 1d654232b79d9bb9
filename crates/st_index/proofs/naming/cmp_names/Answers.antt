use Rattle.std.proofs.Common.{rules}
use Rattle.st_index.proofs.naming.cmp_names.Goals as goal

pub returns-in-Equal : goal.returns-in-Equal
returns-in-Equal g c = search rules
