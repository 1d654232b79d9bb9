use Rattle.st_http.proofs.TokenLemmas.{user_named}
use Rattle.st_http.proofs.law.user_is_name.Goals as goal

pub returns : goal.returns
returns c = user_named
