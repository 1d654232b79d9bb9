use Rattle.st_http.proofs.FirstLemmas.{first_unique}
use Rattle.st_http.proofs.law.one_first.Goals as goal

pub returns : goal.returns
returns c = first_unique
