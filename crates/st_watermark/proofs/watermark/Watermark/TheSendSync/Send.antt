use denote.Param.Send.{IsSend}
use Rattle.st_watermark.specs.contracts.watermark.Watermark.{the_row}
use base.Growing.{latest}

pub send : IsSend the_row
unfolding latest
send = record { owned = λ d vs. ((λ vss. (tt, ((λ uss. (tt, tt)), tt))), tt); leaving = λ k f vs. tt }
