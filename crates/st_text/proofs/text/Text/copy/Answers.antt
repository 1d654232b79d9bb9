use Rattle.std.proofs.Common.{rules}
use Rattle.st_text.proofs.text.Text.copy.Goals as goal

pub returns : goal.returns
returns g c = search rules
