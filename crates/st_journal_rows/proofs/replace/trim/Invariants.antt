use Rattle.std.proofs.Common.{◌-◌}
use Rattle.sqlite_trees.specs.View.{IsClean, IsQuiet, KeepsCommitted}
use Rattle.st_journal_rows.specs.inner.Writes.{Trims}
use Rattle.st_journal_rows.proofs.replace.trim.Given as goal

abbrev pub invariant-loop-done : goal.invariant-loop-done
invariant-loop-done g l =
    let s = g.S.Store in
    let old = s.view l.fn.store in
    let now = s.view l.store in
    record {
      quiet : IsQuiet s.view s.faults s.recovers s.is_shielded l.fn.store l.store;
      kept : IsClean now → KeepsCommitted old now;
      trimmed : IsClean now → Trims old now l.fn.count (l.fn.count - l.done);
    }
