use Rattle.std.proofs.Common.{◌≡◌, List, drop, take}
use Rattle.sqlite_trees.specs.View.{IsClean, IsQuiet, KeepsCommitted}
use Rattle.st_journal.specs.declared.record.Record.{Record}
use Rattle.st_journal_rows.specs.Table.{table_tree, numbered_rows}
use Rattle.st_journal_rows.proofs.back.read_from.Given as goal

abbrev pub invariant-loop-at : goal.invariant-loop-at
invariant-loop-at g l =
    let s = g.S.Store in
    let old = s.view l.fn.store in
    let now = s.view l.store in
    record {
      quiet : IsQuiet s.view s.faults s.recovers s.is_shielded l.fn.store l.store;
      kept : IsClean now → KeepsCommitted old now;
      same : IsClean now → now ≡ old;
      found : IsClean now → (all : List Record) → old.trees table_tree ≡ numbered_rows 0 all → l.records.items ≡ take l.at (drop l.number all);
    }
