use Rattle.st_json.proofs.SomeAnswer.{some_answer}
use Rattle.st_json.proofs.law.some_answer.Goals as goal

pub returns : goal.returns
returns g c = some_answer _
