use Rattle.st_http.proofs.ItemLemmas.{message_size}
use Rattle.st_http.proofs.law.message_fits.Goals as goal

pub returns : goal.returns
returns c = message_size
