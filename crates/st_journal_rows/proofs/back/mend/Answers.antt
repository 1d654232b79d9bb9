use Rattle.std.proofs.Common.{rules}
use Rattle.st_journal_rows.proofs.Causes.{shut}
use Rattle.st_journal_rows.proofs.back.mend.Goals as goal

pub returns-then-is_broken-clause-goes_on : goal.returns-then-is_broken-clause-goes_on
returns-then-is_broken-clause-goes_on g c = search rules

pub returns-then-is_broken-clause-rolled : goal.returns-then-is_broken-clause-rolled
returns-then-is_broken-clause-rolled g c = search rules

pub returns-then-is_broken-clause-lost : goal.returns-then-is_broken-clause-lost
returns-then-is_broken-clause-lost g c clean is was =
    let s = g.S.Store in
    shut (s.view c.args.store.now) (s.view c.rollback.new.self) c.rollback.ensures.undone (search rules) (c.rollback.ensures.quiet.closes clean was)

pub returns-else-is_broken-clause-lost : goal.returns-else-is_broken-clause-lost
returns-else-is_broken-clause-lost g c = search rules
