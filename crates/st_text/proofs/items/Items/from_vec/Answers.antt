use Rattle.std.proofs.Common.{rules}
use Rattle.st_text.proofs.items.Items.from_vec.Goals as goal

pub returns : goal.returns
returns g c = search rules
