use Rattle.std.proofs.Common.{Ok, Err, refl}
use Rattle.st_service.proofs.asked.call.Goals as goal

pub returns-in-Ok : goal.returns-in-Ok
returns-in-Ok g c = (Ok c.in-Ok.request, c.in-Ok.ensures, refl)

pub returns-in-Err-Refused : goal.returns-in-Err-Refused
returns-in-Err-Refused g c = (Err c.in-Err-Refused.refusal, (rw c.in-Err-Refused.field-0-is at c.in-Err-Refused.ensures), refl)
