use Rattle.st_http.proofs.FirstLemmas.{first_kept}
use Rattle.st_http.proofs.law.first_stays.Goals as goal

pub returns : goal.returns
returns c = first_kept
