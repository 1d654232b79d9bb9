use Rattle.std.proofs.Common.{rules}
use Rattle.st_http.specs.Fields.{body_length_of}
use Rattle.st_http.proofs.fields.body_length.Goals as goal

pub returns-in-Missing : goal.returns-in-Missing
unfolding body_length_of
returns-in-Missing c = search rules

pub returns-in-Some-2 : goal.returns-in-Some-2
unfolding body_length_of
returns-in-Some-2 c = search rules
