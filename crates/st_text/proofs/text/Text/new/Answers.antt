use Rattle.std.proofs.Common.{rules}
use Rattle.st_text.proofs.text.Text.new.Goals as goal

pub returns-in-Err-clause-fits : goal.returns-in-Err-clause-fits
returns-in-Err-clause-fits g c = search rules

pub returns-in-Err-clause-value : goal.returns-in-Err-clause-value
returns-in-Err-clause-value g c = search rules
