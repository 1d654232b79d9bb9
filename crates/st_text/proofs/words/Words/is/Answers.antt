use Rattle.std.proofs.Common.{rules}
use Rattle.st_text.proofs.words.Words.is.Goals as goal

pub returns : goal.returns
returns g c = search rules
