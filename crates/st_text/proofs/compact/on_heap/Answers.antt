use Rattle.std.proofs.Common.{rules}
use Rattle.st_text.proofs.compact.on_heap.Goals as goal

pub returns-in_ok-new-in-Some : goal.returns-in_ok-new-in-Some
returns-in_ok-new-in-Some g c = search rules

pub returns-in_ok-new-in-None : goal.returns-in_ok-new-in-None
returns-in_ok-new-in-None g c = search rules
