use Rattle.std.proofs.Common.{refl}
use Rattle.st_service.specs.Answers.{busy}
use Rattle.st_service.proofs.answerer.Answerer.answer_asked.Goals as goal

pub returns-in_default : goal.returns-in_default
returns-in_default g c = busy refl refl
