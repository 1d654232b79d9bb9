use Rattle.std.proofs.Common.{rules}
use Rattle.st_auth.proofs.cache.Cache.keep.Goals as goal

pub returns-then-number-count : goal.returns-then-number-count
returns-then-number-count g c = search rules
