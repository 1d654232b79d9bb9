use denote.Param.Send.{IsSend}
use Rattle.st_watermark.specs.contracts.watermark.Reached.{the_row}
use base.Growing.{at_least}

pub send : IsSend the_row
unfolding at_least
send = record { owned = λ d vs. ((λ vss. (tt, ((λ uss. (tt, tt)), tt))), tt); leaving = λ k f vs. tt }
