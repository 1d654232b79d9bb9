use Rattle.std.proofs.Common.{ℕ, Bool, cond, List, ap₂, subst, arith}
use Rattle.sqlite_disk.specs.Events.{Event, replay}
use Rattle.sqlite_wal.specs.Recovery.{Image}
use Rattle.sqlite_trees.specs.View.{IsClean}
use Rattle.sqlite_store.specs.FileStore.{view}
use Rattle.st_journal_file.specs.inner.Finding.{Finds}
use Rattle.st_journal_file.proofs.FileLemmas.{if_one, if_two}
use Rattle.st_journal_file.proofs.Opened.{opened}
use Rattle.st_journal_file.proofs.open.FileJournal+FileFrom+S.open.Goals as goal

abbrev image : List ℕ → List ℕ → Image
image log db = record { log = log; db = db }

abbrev seen : List ℕ → List ℕ → Bool → List Event → List ℕ
seen log db is_log history = (replay (cond is_log log db) history).seen

pub returns-clause-ready : goal.returns-clause-ready
returns-clause-ready g c = if_one c.journal_of.result (λ journal begins clean. (begins clean).ready) c.journal_of.ensures.ok

pub returns-clause-opened : goal.returns-clause-opened
returns-clause-opened g c = if_two c.journal_of.result (λ journal cleaner begins clean.
    let (log, db) = c.in_ok-files.ensures.fresh in
    let store = c.in_ok-store.store in
    let same = ap₂ image (ap₂ (seen g.S.Start.log g.S.Start.db) log.0 log.1) (ap₂ (seen g.S.Start.log g.S.Start.db) db.0 db.1) in
    let was : IsClean (view store) = omega (arith, clean, cleaner) in
    opened g.R.Replay.applies c.args.opening.now _ (view store) (view journal.store) journal.count c.args.state.now c.journal_of.new.state
    (subst (λ i. Finds i (view store).committed) same (c.in_ok-store.ensures.found was)) (begins clean)) c.journal_of.ensures.clean c.journal_of.ensures.ok
