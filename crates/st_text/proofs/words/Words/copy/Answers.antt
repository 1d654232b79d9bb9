use Rattle.std.proofs.Common.{rules}
use Rattle.st_text.proofs.words.Words.copy.Goals as goal

pub returns : goal.returns
returns g c = search rules
