use Rattle.std.proofs.Common.{rules}
use Rattle.st_policy.proofs.policy.decide.Goals as goal

pub returns-in_err-permits : goal.returns-in_err-permits
returns-in_err-permits g c = search rules

pub returns-in_err-finds_user : goal.returns-in_err-finds_user
returns-in_err-finds_user g c = search rules
