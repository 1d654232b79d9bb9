use Rattle.std.proofs.Common.{ap}
use Rattle.std.proofs.lemmas.List.Elements.{All-nil}
use Rattle.st_tally.specs.inner.Sums.{total}
use Rattle.st_tally.proofs.summary.Summary.new.Goals as goal

pub returns : goal.returns
returns g c = record { within = All-nil _; counted = λ all judges. ap (total judges) c.new.ensures }
