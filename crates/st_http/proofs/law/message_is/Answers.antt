use Rattle.st_http.proofs.ItemLemmas.{message_from_first, first_from_message}
use Rattle.st_http.proofs.law.message_is.Goals as goal

pub returns : goal.returns
returns c = λ text h body bare. (message_from_first text h body bare, first_from_message text h body bare)
