use Rattle.std.proofs.Common.{rules, inl}
use Rattle.st_service.proofs.Replying.{accepted_is}
use Rattle.st_service.proofs.answer.answer_of.Goals as goal

pub returns-in-Accepted : goal.returns-in-Accepted
returns-in-Accepted g c = rw c.in-Accepted.is (inl (accepted_is _ c.args.close c.args.bare))

pub returns-in-Err : goal.returns-in-Err
returns-in-Err g c = search rules
