use Rattle.std.proofs.Common.{subst, sym}
use Rattle.std.proofs.lemmas.Result.{err_from_is_err_and}
use Rattle.sqlite_wal.specs.Files.{image_at}
use Rattle.st_command.specs.Opening.{IsOfStore}
use Rattle.st_journal_file.specs.Opening.{HoldStore}
use Rattle.st_store_file.proofs.Short.{none_before, shortened_by}
use Rattle.st_store_file.proofs.file.shorten_file.Goals as goal

pub invariant_of-journal : goal.invariant_of-journal
invariant_of-journal g c = record {
  served = c.shorten_journal.new.journal.store.served;
  stored = c.shorten_journal.new.journal.store.stored;
  cookie = c.shorten_journal.new.journal.store.cookie;
  marked = c.shorten_journal.new.journal.store.marked;
  safe = c.shorten_journal.new.journal.store.safe;
}

pub returns-in_err-counts-clause-err : goal.returns-in_err-counts-clause-err
returns-in_err-counts-clause-err g c =
    let p = err_from_is_err_and c.from_residual-in_err-counts.result c.from_residual-in_err-counts.ensures.1 in
    rw p.1 (subst IsOfStore (sym p.2) c.in_err-counts.ensures.err)

pub returns-clause-short : goal.returns-clause-short
returns-clause-short g c = λ clean.
    let was = none_before _ _ c.shorten_journal.ensures.misreads clean in
    shortened_by (HoldStore (image_at g.S.Start)) c.args.opening.now c.args.store c.new-state.result c.open.new.state _ _ _
    c.new-state.ensures c.requires.rows c.requires.audit (c.in_ok-journal.ensures.found was) (c.in_ok-journal.ensures.made was)
    (λ w none made. c.in_ok-counts.ensures.short clean w (none, made))
