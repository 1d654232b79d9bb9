use Rattle.std.proofs.Common.{sym, subst}
use Rattle.sqlite_store.specs.FileStore.{view}
use Rattle.sqlite_store.specs.Laws.{settled_at}
use Rattle.st_journal_rows.specs.inner.Putting.{HasTable}
use Rattle.st_journal_rows.proofs.CommitLemmas.{ready_table}
use Rattle.st_journal_file.proofs.open.journal_of.Goals as goal

pub invariant_of-result : goal.invariant_of-result
invariant_of-result g c =
    let store = c.begin.new.store in
    record {
      numbered = λ clean. (c.in_ok-count.ensures.ok clean).ready.rows.numbered;
      lasting = λ clean db leaves.
          let ready = (c.in_ok-count.ensures.ok clean).ready in
          subst HasTable (sym (settled_at store g.met.D.Disk.seen_may_stay db ready.is_open leaves)) (ready_table (view store) c.in_ok-count.count ready);
    }
