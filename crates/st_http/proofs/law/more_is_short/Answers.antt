use Rattle.st_http.proofs.FirstLemmas.{more_short}
use Rattle.st_http.proofs.law.more_is_short.Goals as goal

pub returns : goal.returns
returns c = more_short
