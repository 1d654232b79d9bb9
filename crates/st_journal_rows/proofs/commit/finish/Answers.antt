use Rattle.std.proofs.Common.{◌≡◌, rules}
use Rattle.st_journal.specs.declared.journal.AppendError.TheVariants.{NotKept}
use Rattle.st_journal_rows.proofs.Causes.{refused_by, shut}
use Rattle.st_journal_rows.proofs.commit.finish.Goals as goal

pub returns-then-is_broken-clause-unknown : goal.returns-then-is_broken-clause-unknown
returns-then-is_broken-clause-unknown g c clean is was =
    let s = g.S.Store in
    shut (s.view c.args.store.now) (s.view c.conclude.new.store) (search rules) (search rules) (c.conclude.ensures.closes clean was)

pub returns-else-is_broken-clause-refused : goal.returns-else-is_broken-clause-refused
returns-else-is_broken-clause-refused g c clean is sound before grown wrote =
    let s = g.S.Store in
    let refusal : c.reason.result ≡ NotKept = cc (is) in
    refused_by sound (s.view c.args.store.now) before (s.faults c.args.store.now) (s.faults c.conclude.new.store) c.args.written c.in-Err.error
    (λ v from to whole why. c.reason.ensures.caused v from to whole why refusal) wrote grown c.conclude.ensures.counts (c.in-Err.ensures.cause clean)

pub returns-else-is_broken-clause-unknown : goal.returns-else-is_broken-clause-unknown
returns-else-is_broken-clause-unknown g c = search rules
