use Rattle.st_http.proofs.ExpectLemmas.{awaited}
use Rattle.st_http.proofs.law.expects_stays.Goals as goal

pub returns : goal.returns
returns c = awaited
