use Rattle.st_service.proofs.Equal.{equal, same_kept}
use Rattle.st_service.proofs.law.equal_bytes.Goals as goal

pub returns-clause-told_the_same : goal.returns-clause-told_the_same
returns-clause-told_the_same g c s user one two same =
    equal s user one.items two.items one.history two.history one.is_history two.is_history one.never two.never same

pub returns-clause-same_items : goal.returns-clause-same_items
returns-clause-same_items g c = same_kept
