use Rattle.std.proofs.Common.{rules}
use Rattle.st_label.proofs.truth.Pass.finish.Goals as goal

pub returns-in-Free : goal.returns-in-Free
returns-in-Free g c = search rules
