use Rattle.std.proofs.Common.{◌≡◌, ◌+◌, take}
use Rattle.sqlite_trees.specs.View.{IsClean, IsQuiet, KeepsCommitted}
use Rattle.st_journal_rows.specs.inner.Writes.{Adds}
use Rattle.st_journal_rows.proofs.write.put_all.Given as goal

abbrev pub invariant-loop-change : goal.invariant-loop-change
invariant-loop-change g l =
    let s = g.S.Store in
    let old = s.view l.fn.store in
    let now = s.view l.store in
    record {
      number : l.number ≡ l.fn.count + l.change-index;
      quiet : IsQuiet s.view s.faults s.recovers s.is_shielded l.fn.store l.store;
      kept : IsClean now → KeepsCommitted old now;
      added : IsClean now → Adds old now l.fn.count (take l.change-index l.records);
    }
