use Rattle.std.proofs.Common.{rules}
use Rattle.st_json.proofs.rule.label.Goals as goal

pub returns-in-Err-TooLong : goal.returns-in-Err-TooLong
returns-in-Err-TooLong g c = search rules
