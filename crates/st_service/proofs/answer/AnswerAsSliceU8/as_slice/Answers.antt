use Rattle.std.proofs.Common.{rules}
use Rattle.st_service.proofs.answer.AnswerAsSliceU8.as_slice.Goals as goal

pub returns-in-Busy : goal.returns-in-Busy
returns-in-Busy g c = search rules
