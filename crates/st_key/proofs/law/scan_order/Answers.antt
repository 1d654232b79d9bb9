use Rattle.st_key.proofs.Digits.{digits_by_level}
use Rattle.st_key.proofs.law.scan_order.Goals as goal

pub returns : goal.returns
returns c = digits_by_level
